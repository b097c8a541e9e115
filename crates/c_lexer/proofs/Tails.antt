-- Lines from the end on.
use Rattle.std.proofs.Common.{◌≡◌, ◌≤◌, ◌<◌, ◌+◌, ◌-◌, ℕ, Bool, true, false, ◌&&◌, List, [], ◌∷◌, length, drop, get_or, Option, Some, None, cond, refl, arith, ap, sym, ◌∙◌}
use Rattle.std.specs.List.{list_all}
use Rattle.std.specs.Option.{option_map, IfSome}
use Rattle.std.proofs.lemmas.List.{drop_more}
use Rattle.c_lexer.specs.declared.line.Tail.{Tail}
use Rattle.c_lexer.specs.Bytes.{is_space, is_return}
use Rattle.c_lexer.specs.Machine.{breaks_before, breaks_line, broken_at, onto}
use Rattle.c_lexer.proofs.Lines.{broken_within}

-- what is known of these bytes, from this place on
abbrev pub tail_of : ℕ → List ℕ → Tail
tail_of at [] = record { broken = None; white = true; returns = true }
tail_of at (b ∷ w) = onto b at (tail_of (at + 1) w)

white_is : (w : List ℕ) (at : ℕ) → (tail_of at w).white ≡ list_all is_space w
white_is [] at = refl
white_is (b ∷ w) at = ap (λ (x : Bool). is_space b && x) (white_is w (at + 1))

returns_is : (w : List ℕ) (at : ℕ) → (tail_of at w).returns ≡ list_all is_return w
returns_is [] at = refl
returns_is (b ∷ w) at = ap (λ (x : Bool). is_return b && x) (returns_is w (at + 1))

chosen : (c : Bool) (at : ℕ) (o : Option ℕ) → cond c (Some at) (option_map (λ n. n + (at + 1)) o) ≡ option_map (λ n. n + at)
    (cond c (Some 0) (option_map (λ n. n + 1) o))
chosen true at o = ap (λ (n : ℕ). Some n) (let e : at ≡ 0 + at = omega arith in e)
chosen false at None = refl
chosen false at (Some n) = ap (λ (n : ℕ). Some n) (let e : n + (at + 1) ≡ n + 1 + at = omega arith in e)

broken_is : (w : List ℕ) (at : ℕ) → (tail_of at w).broken ≡ option_map (λ n. n + at) (broken_at w)
broken_is [] at = refl
broken_is (b ∷ w) at =
    ap (λ (o : Option ℕ). cond (breaks_before b (tail_of (at + 1) w).white (tail_of (at + 1) w).returns) (Some at) o) (broken_is w (at + 1))
    ∙ ap (λ (x : Bool). cond (breaks_before b x (tail_of (at + 1) w).returns) (Some at) (option_map (λ n. n + (at + 1)) (broken_at w))) (white_is w (at + 1))
    ∙ ap (λ (x : Bool). cond (breaks_before b (list_all is_space w) x) (Some at) (option_map (λ n. n + (at + 1)) (broken_at w))) (returns_is w (at + 1))
    ∙ chosen (breaks_line b w) at (broken_at w)

none_added : (o : Option ℕ) → option_map (λ n. n + 0) o ≡ o
none_added None = refl
none_added (Some n) = ap (λ (n : ℕ). Some n) (let e : n + 0 ≡ n = omega arith in e)

-- one more byte, from the end on
pub one_more : (w : List ℕ) (passed : ℕ) (new old : Tail) → passed < length w → old ≡ tail_of (length w - passed) (drop (length w - passed) w)
    → new ≡ onto (get_or w (length w - 1 - passed) 0) (length w - 1 - passed) old → new ≡ tail_of (length w - (passed + 1)) (drop (length w - (passed + 1)) w)
one_more w passed new old h before e =
    let i = length w - (passed + 1) in
    let x : length w - 1 - passed ≡ i = omega arith in
    let y : length w - passed ≡ i + 1 = omega arith in
    let z : i < length w = omega arith in
    e ∙ ap (λ (n : ℕ). onto (get_or w n 0) n old) x ∙ ap (onto (get_or w i 0) i) (before ∙ ap (λ (n : ℕ). tail_of n (drop n w)) y) ∙
    ap (tail_of i) (sym (drop_more w i 0 z))

-- all bytes
pub all_passed : (w : List ℕ) (passed : ℕ) (tail : Tail) → length w ≤ passed → tail ≡ tail_of (length w - passed) (drop (length w - passed) w) →
    tail.broken ≡ broken_at w
all_passed w passed tail h e =
    let x : length w - passed ≡ 0 = omega arith in
    ap (λ (t : Tail). t.broken) (e ∙ ap (λ (n : ℕ). tail_of n (drop n w)) x) ∙ broken_is w 0 ∙ none_added (broken_at w)

pub within : (w : List ℕ) (o : Option ℕ) → o ≡ broken_at w → IfSome o (λ n. n < length w)
within w None e = tt
within w (Some n) e = broken_within w n (sym e)

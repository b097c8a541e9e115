-- Lines of a text, byte by byte.
use Rattle.std.proofs.Common.{◌≡◌, ℕ, zero, suc, ◌+◌, ◌-◌, ◌<◌, ◌≤◌, ◌==◌, Bool, true, false, cond, List, [], ◌∷◌, length, get_or, drop, refl, sym, ap, ◌∙◌, arith}
use Rattle.std.proofs.lemmas.List.{drop_all}
use Rattle.move_replay.specs.Lines.{line_start}

dropped : (xs : List ℕ) (i d : ℕ) → i < length xs → drop i xs ≡ get_or xs i d ∷ drop (suc i) xs
dropped [] i d h = absurd (omega arith)
dropped (y ∷ xs) zero d h = refl
dropped (y ∷ xs) (suc i) d h = let g : i < length xs = omega arith in dropped xs i d g

either : (b : Bool) (text : List ℕ) (m n : ℕ) → cond b (line_start m text) (line_start n text) ≡ line_start (cond b m n) text
either true text m n = refl
either false text m n = refl

one_byte : (left c : ℕ) (text : List ℕ) → 0 < left → line_start left (c ∷ text) ≡ suc (line_start (cond (c == 10) (left - 1) left) text)
one_byte zero c text h = absurd (omega arith)
one_byte (suc n) c text h =
    let e : n ≡ suc n - 1 = omega arith in
    ap suc (either (c == 10) text n (suc n) ∙ ap (λ m. line_start (cond (c == 10) m (suc n)) text) e)

pub passed : (text : List ℕ) (number i left next d : ℕ) → i < length text → 0 < left → next ≡ cond (get_or text i d == 10) (left - 1) left →
    line_start number text ≡ i + line_start left (drop i text)
    → line_start number text ≡ i + 1 + line_start next (drop (i + 1) text)
passed text number i left next d h p n inv =
    let c = get_or text i d in
    let more : suc i ≡ i + 1 = omega arith in
    let a = ap (line_start left) (dropped text i d h) ∙ one_byte left c (drop (suc i) text) p ∙
    ap (λ m. suc (line_start m (drop (suc i) text))) (sym n) ∙ ap (λ k. suc (line_start next (drop k text))) more in
    omega (arith, inv, a)

none_left : (left : ℕ) → line_start left [] ≡ 0
none_left zero = refl
none_left (suc n) = refl

pub at_end : (text : List ℕ) (number i left : ℕ) → i ≡ length text → length text ≤ i → line_start number text ≡ i + line_start left (drop i text) →
    length text ≡ line_start number text
at_end text number i left l h inv =
    let a = ap (line_start left) (drop_all i text h) ∙ none_left left in
    omega (arith, inv, a, l, h)

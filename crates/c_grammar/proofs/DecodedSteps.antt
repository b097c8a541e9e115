-- The code finds byte by byte what character constants and texts write.
use Rattle.std.proofs.Common.{◌≡◌, ◌≤◌, ◌<◌, ◌+◌, ◌*◌, ◌-◌, ◌%◌, ◌==◌, ℕ, zero, suc, Bool, true, false, cond, List, [], ◌∷◌, ◌++◌, length, take, drop, get_or, refl, ap, sym, ◌∙◌, subst, arith, length-drop, nat_le}
use Rattle.std.specs.Prelude.{nat_lt}
use Rattle.std.specs.List.{prefix_len, take_while}
use Rattle.std.proofs.lemmas.Bool.{eqb-true, leb-true}
use Rattle.std.proofs.lemmas.Nat.{mul-mod_first}
use Rattle.std.proofs.Math.Nat.{mod-add-mod, mod-eq_of_lt}
use Rattle.c_lexer.specs.Bytes.{is_octal_digit, is_hexadecimal_digit, digit_value}
use Rattle.c_lexer.specs.NumberSteps.{value_from}
use Rattle.c_lexer.proofs.NumberLemmas.{value_is}
use Rattle.c_lexer.proofs.Truths.{both_true}
use Rattle.c_grammar.specs.declared.decoding.Decoding.TheVariants as d
use Rattle.c_grammar.specs.DecodingSteps.{decoded_from, decoded}
use Rattle.c_grammar.specs.Words.{Element, Itself, Simple, Octal, Hexadecimal, escape_value, written, value, escape, first_element, Writes, nothing, element, within_quotes, first_value, character}

-- ---- numbers of which the last eight bits are kept

grown : (u base a : ℕ) → (u % 256 * base + a) % 256 ≡ (u * base + a) % 256
grown u base a = sym (mod-add-mod (u % 256 * base) 256 a) ∙ ap (λ n. (n + a) % 256) (mul-mod_first u base 256) ∙ mod-add-mod (u * base) 256 a

-- ---- runs of digits

pub run_more : (f : ℕ → Bool) (b : ℕ) (w : List ℕ) → f b ≡ true → take_while f (b ∷ w) ≡ b ∷ take_while f w
run_more f b w h =
    let e : 1 + prefix_len f w ≡ suc (prefix_len f w) = omega arith in
    ap (λ x. take (cond x (1 + prefix_len f w) 0) (b ∷ w)) h ∙ ap (λ n. take n (b ∷ w)) e

pub run_ends : (f : ℕ → Bool) (b : ℕ) (w : List ℕ) → f b ≡ false → take_while f (b ∷ w) ≡ []
run_ends f b w h = ap (λ x. take (cond x (1 + prefix_len f w) 0) (b ∷ w)) h

-- a byte of these digits behind that number, and what is decoded behind them
abbrev behind_digits : ℕ → ℕ → List ℕ → List ℕ → List ℕ
behind_digits base u ds w = value_from base u ds % 256 ∷ decoded_from d.Plain (drop (length ds) w)

hexadecimal : (w : List ℕ) (u : ℕ) → decoded_from (d.Hexadecimal (u % 256)) w ≡ behind_digits 16 u (take_while is_hexadecimal_digit w) w
hexadecimal [] u = refl
hexadecimal (b ∷ w) u = go (is_hexadecimal_digit b) refl (hexadecimal w)
  where
    go : (c : Bool) → is_hexadecimal_digit b ≡ c
        → ((v : ℕ) → decoded_from (d.Hexadecimal (v % 256)) w ≡ behind_digits 16 v (take_while is_hexadecimal_digit w) w)
        → decoded_from (d.Hexadecimal (u % 256)) (b ∷ w) ≡ behind_digits 16 u (take_while is_hexadecimal_digit (b ∷ w)) (b ∷ w)
    go true e f =
        let x : decoded_from (d.Hexadecimal (u % 256)) (b ∷ w) ≡ decoded_from (d.Hexadecimal ((u % 256 * 16 + digit_value b) % 256)) w = rw e refl in
        x ∙ ap (λ n. decoded_from (d.Hexadecimal n) w) (grown u 16 (digit_value b)) ∙ f (u * 16 + digit_value b)
        ∙ sym (ap (λ ds. behind_digits 16 u ds (b ∷ w)) (run_more is_hexadecimal_digit b w e))
    go false e f =
        let x : decoded_from (d.Hexadecimal (u % 256)) (b ∷ w) ≡ u % 256 ∷ decoded_from d.Plain (b ∷ w) = rw e refl in
        x ∙ sym (ap (λ ds. behind_digits 16 u ds (b ∷ w)) (run_ends is_hexadecimal_digit b w e))

-- so many octal digits at most
abbrev octals : ℕ → List ℕ → List ℕ
octals m w = take m (take_while is_octal_digit w)

abbrev IsOctal : ℕ → ℕ → Type 0
IsOctal k m = (w : List ℕ) (u : ℕ) → decoded_from (d.Octal k (u % 256)) w ≡ behind_digits 8 u (octals m w) w

octal_last : IsOctal 3 0
octal_last [] u = refl
octal_last (b ∷ w) u = refl

octal_more : (k m : ℕ) → nat_lt k 3 ≡ true → IsOctal (k + 1) m → IsOctal k (suc m)
octal_more k m l f [] u = refl
octal_more k m l f (b ∷ w) u = go (is_octal_digit b) refl
  where
    go : (c : Bool) → is_octal_digit b ≡ c → decoded_from (d.Octal k (u % 256)) (b ∷ w) ≡ behind_digits 8 u (octals (suc m) (b ∷ w)) (b ∷ w)
    go true e =
        let x : decoded_from (d.Octal k (u % 256)) (b ∷ w) ≡ decoded_from (d.Octal (k + 1) ((u % 256 * 8 + digit_value b) % 256)) w = rw (l, e) refl in
        x ∙ ap (λ n. decoded_from (d.Octal (k + 1) n) w) (grown u 8 (digit_value b)) ∙ f w (u * 8 + digit_value b)
        ∙ sym (ap (λ ds. behind_digits 8 u (take (suc m) ds) (b ∷ w)) (run_more is_octal_digit b w e))
    go false e =
        let x : decoded_from (d.Octal k (u % 256)) (b ∷ w) ≡ u % 256 ∷ decoded_from d.Plain (b ∷ w) = rw (l, e) refl in
        x ∙ sym (ap (λ ds. behind_digits 8 u (take (suc m) ds) (b ∷ w)) (run_ends is_octal_digit b w e))

octal_first : IsOctal 1 2
octal_first = octal_more 1 1 refl (octal_more 2 0 refl octal_last)

-- ---- elements

small : (c : Bool) (x y : ℕ) → x < 256 → y < 256 → cond c x y < 256
small true x y g h = g
small false x y g h = h

octal_digit : (c : ℕ) → is_octal_digit c ≡ true → digit_value c % 256 ≡ digit_value c
octal_digit c h =
    let k = leb-true c 55 (both_true (nat_le 48 c) (nat_le c 55) h).1 in
    mod-eq_of_lt (small (nat_le 97 c) (c - 87) _ (omega arith) (small (nat_le 65 c) (c - 55) (c - 48) (omega arith) (omega arith)))

from_nothing : (n : ℕ) → n ≡ 0 * 8 + n
from_nothing n = omega arith

-- what this element writes, and then what is decoded behind it
abbrev behind_element : ℕ → List ℕ → Element → List ℕ
behind_element b w x = value x ∷ decoded_from d.Plain (drop (length (written x)) (b ∷ w))

-- behind a `\` the code reads what the definition says
abbrev Escapes : ℕ → List ℕ → Type 0
Escapes c w = decoded_from d.Backslash (c ∷ w) ≡ behind_element 92 (c ∷ w) (escape c w)

octal_escape : (c : ℕ) (w : List ℕ) → is_octal_digit c ≡ true → Escapes c w
octal_escape c w e =
    let ds = octals 2 w in
    let a : decoded_from d.Backslash (c ∷ w) ≡ decoded_from (d.Octal 1 (digit_value c)) w = rw e refl in
    let x : escape c w ≡ Octal (take 3 (take_while is_octal_digit (c ∷ w))) =
    ap (λ z. cond z (Octal (take 3 (take_while is_octal_digit (c ∷ w)))) (cond (c == 120) (Hexadecimal (take_while is_hexadecimal_digit w)) (Simple c))) e in
    a ∙ ap (λ n. decoded_from (d.Octal 1 n) w) (sym (octal_digit c e)) ∙ octal_first w (digit_value c)
    ∙ ap (λ n. behind_digits 8 n ds w) (from_nothing (digit_value c))
    ∙ ap (λ n. n % 256 ∷ decoded_from d.Plain (drop (length ds) w)) (value_is 8 (c ∷ ds))
    ∙ sym (ap (behind_element 92 (c ∷ w)) (x ∙ ap (λ run. Octal (take 3 run)) (run_more is_octal_digit c w e)))

hexadecimal_escape : (c : ℕ) (w : List ℕ) → is_octal_digit c ≡ false → (c == 120) ≡ true → Escapes c w
hexadecimal_escape c w e k =
    let ds = take_while is_hexadecimal_digit w in
    let a : decoded_from d.Backslash (c ∷ w) ≡ decoded_from (d.Hexadecimal 0) w = rw (e, k) refl in
    let x : escape c w ≡ Hexadecimal ds = rw (e, k) refl in
    a ∙ hexadecimal w 0 ∙ ap (λ n. n % 256 ∷ decoded_from d.Plain (drop (length ds) w)) (value_is 16 ds) ∙ sym (ap (behind_element 92 (c ∷ w)) x)

simple_escape : (c : ℕ) (w : List ℕ) → is_octal_digit c ≡ false → (c == 120) ≡ false → Escapes c w
simple_escape c w e k =
    let a : decoded_from d.Backslash (c ∷ w) ≡ escape_value c ∷ decoded_from d.Plain w = rw (e, k) refl in
    let x : escape c w ≡ Simple c = rw (e, k) refl in
    a ∙ sym (ap (behind_element 92 (c ∷ w)) x)

escape_is : (c : ℕ) (w : List ℕ) → Escapes c w
escape_is c w = go (is_octal_digit c) refl (c == 120) refl
  where
    go : (x : Bool) → is_octal_digit c ≡ x → (y : Bool) → (c == 120) ≡ y → Escapes c w
    go true e y k = octal_escape c w e
    go false e true k = hexadecimal_escape c w e k
    go false e false k = simple_escape c w e k

backslash_is : (w : List ℕ) → decoded_from d.Plain (92 ∷ w) ≡ behind_element 92 w (first_element 92 w)
backslash_is [] = refl
backslash_is (c ∷ w) = escape_is c w

itself : (b : ℕ) (w : List ℕ) → (b == 92) ≡ false → first_element b w ≡ Itself b
itself b [] h = refl
itself b (c ∷ w) h = rw h refl

itself_is : (b : ℕ) (w : List ℕ) → (b == 92) ≡ false → decoded_from d.Plain (b ∷ w) ≡ behind_element b w (first_element b w)
itself_is b w e =
    let a : decoded_from d.Plain (b ∷ w) ≡ b ∷ decoded_from d.Plain w = rw e refl in
    a ∙ sym (ap (behind_element b w) (itself b w e))

first_decoded : (b : ℕ) (w : List ℕ) → decoded_from d.Plain (b ∷ w) ≡ behind_element b w (first_element b w)
first_decoded b w = go (b == 92) refl
  where
    go : (c : Bool) → (b == 92) ≡ c → decoded_from d.Plain (b ∷ w) ≡ behind_element b w (first_element b w)
    go true e = subst (λ (i : ℕ). decoded_from d.Plain (i ∷ w) ≡ behind_element i w (first_element i w)) (sym (eqb-true b 92 e)) (backslash_is w)
    go false e = itself_is b w e

-- ---- an element stands in front of the bytes behind it

abbrev IsFront : List ℕ → List ℕ → Type 0
IsFront u w = w ≡ u ++ drop (length u) w

taken_front : (m k : ℕ) (w : List ℕ) → IsFront (take m (take k w)) w
taken_front zero k w = refl
taken_front (suc m) zero w = refl
taken_front (suc m) (suc k) [] = refl
taken_front (suc m) (suc k) (b ∷ w) = ap (λ l. b ∷ l) (taken_front m k w)

all_front : (k : ℕ) (w : List ℕ) → IsFront (take k w) w
all_front zero w = refl
all_front (suc k) [] = refl
all_front (suc k) (b ∷ w) = ap (λ l. b ∷ l) (all_front k w)

escape_front : (c : ℕ) (w : List ℕ) → IsFront (written (escape c w)) (92 ∷ c ∷ w)
escape_front c w = go (is_octal_digit c) (c == 120) refl
  where
    chosen : Bool → Bool → Element
    chosen x y = cond x (Octal (take 3 (take_while is_octal_digit (c ∷ w)))) (cond y (Hexadecimal (take_while is_hexadecimal_digit w)) (Simple c))

    go : (x y : Bool) → (c == 120) ≡ y → IsFront (written (chosen x y)) (92 ∷ c ∷ w)
    go true y e = ap (λ l. 92 ∷ l) (taken_front 3 (prefix_len is_octal_digit (c ∷ w)) (c ∷ w))
    go false true e = (λ i. 92 ∷ eqb-true c 120 e i ∷ all_front (prefix_len is_hexadecimal_digit w) w i)
    go false false e = refl

front_of : (b : ℕ) (w : List ℕ) → IsFront (written (first_element b w)) (b ∷ w)
front_of b [] = refl
front_of b (c ∷ w) = go (b == 92) refl
  where
    go : (x : Bool) → (b == 92) ≡ x → IsFront (written (cond x (escape c w) (Itself b))) (b ∷ c ∷ w)
    go true e = subst (λ (i : ℕ). IsFront (written (escape c w)) (i ∷ c ∷ w)) (sym (eqb-true b 92 e)) (escape_front c w)
    go false e = refl

fewer : (n : ℕ) (w : List ℕ) → length (drop n w) ≤ length w
fewer n w = omega (arith, length-drop n w)

fewer_behind : (x : Element) (b : ℕ) (w : List ℕ) → length (drop (length (written x)) (b ∷ w)) ≤ length w
fewer_behind (Itself a) b w = fewer 0 w
fewer_behind (Simple a) b w = fewer 1 w
fewer_behind (Octal ds) b w = fewer (length ds) w
fewer_behind (Hexadecimal ds) b w = fewer (suc (length ds)) w

-- ---- what is decoded is what the elements write

writes_few : (m : ℕ) (v : List ℕ) → length v ≤ m → Writes v (decoded_from d.Plain v)
writes_few m [] h = nothing
writes_few zero (b ∷ w) h = absurd (omega arith)
writes_few (suc m) (b ∷ w) h =
    let r = drop (length (written (first_element b w))) (b ∷ w) in
    let f = fewer_behind (first_element b w) b w in
    subst (Writes (b ∷ w)) (sym (first_decoded b w)) (element b w r (decoded_from d.Plain r) (front_of b w) (writes_few m r (omega arith)))

pub decoded_writes : (w : List ℕ) → Writes (within_quotes w) (decoded w)
decoded_writes w = writes_few (length (within_quotes w)) (within_quotes w) (omega arith)

drop_front : (u r : List ℕ) → drop (length u) (u ++ r) ≡ r
drop_front [] r = refl
drop_front (a ∷ u) r = drop_front u r

pub written_decoded : {v bs : List ℕ} → Writes v bs → decoded_from d.Plain v ≡ bs
written_decoded nothing = refl
written_decoded (element b w r bs e h) =
    let x = first_element b w in
    let k : drop (length (written x)) (b ∷ w) ≡ r = ap (drop (length (written x))) e ∙ drop_front (written x) r in
    first_decoded b w ∙ ap (λ u. value x ∷ decoded_from d.Plain u) k ∙ ap (λ l. value x ∷ l) (written_decoded h)

pub first_written : {v bs : List ℕ} → Writes v bs → get_or bs 0 0 ≡ first_value v
first_written nothing = refl
first_written (element b w r bs e h) = refl

-- the byte of a character constant is the first that is decoded
pub character_decoded : (w : List ℕ) → get_or (decoded w) 0 0 ≡ character w
character_decoded w = first_written (decoded_writes w)

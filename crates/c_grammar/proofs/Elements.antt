-- A character constant or a text writes the values of the characters that the lexer sees in it.
use Rattle.std.proofs.Common.{◌≡◌, ◌-◌, ◌==◌, ℕ, zero, suc, Bool, true, false, cond, ◌||◌, List, [], ◌∷◌, ◌++◌, length, take, map, refl, ap, sym, ◌∙◌, subst, arith, length-append}
use Rattle.std.specs.List.{take_while, list_all}
use Rattle.std.proofs.lemmas.Bool.{eqb-true}
use Rattle.c_lexer.specs.Bytes.{is_octal_digit, is_hexadecimal_digit, is_simple_escape, is_text_byte, NotFirst}
use Rattle.c_lexer.specs.Characters.{Character, IsCharacter, TakesDigits, AreCharacters, written_all}
use Rattle.c_lexer.specs.Characters as ch
use Rattle.c_lexer.specs.Pieces as l
use Rattle.c_lexer.proofs.Truths.{both_true}
use Rattle.c_lexer.proofs.PieceLemmas.{written_all_split}
use Rattle.c_grammar.specs.Words.{Element, Itself, Simple, Octal, Hexadecimal, escape, first_element, written, value, Writes, nothing, element, within_quotes}
use Rattle.c_grammar.proofs.DecodedSteps.{run_more, run_ends}

abbrev pub element_of : Character → Element
element_of (ch.Plain b) = Itself b
element_of (ch.Simple b) = Simple b
element_of (ch.OneDigit a) = Octal (a ∷ [])
element_of (ch.TwoDigits a b) = Octal (a ∷ b ∷ [])
element_of (ch.ThreeDigits a b c) = Octal (a ∷ b ∷ c ∷ [])
element_of (ch.Hexadecimal a ds) = Hexadecimal (a ∷ ds)

-- ---- digits

-- these digits, in front of what is none
take_all : (f : ℕ → Bool) (ds r : List ℕ) → list_all f ds ≡ true → NotFirst f r → take_while f (ds ++ r) ≡ ds
take_all f [] [] h n = refl
take_all f [] (b ∷ r) h n = run_ends f b r n
take_all f (a ∷ ds) r h n =
    let m = both_true (f a) (list_all f ds) h in
    run_more f a (ds ++ r) (m.0) ∙ ap (λ w. a ∷ w) (take_all f ds r (m.1) n)

-- ---- each character

-- a byte of a simple escape is no digit and no `x`
abbrev IsPlain : ℕ → Type 0
IsPlain b = cond (is_octal_digit b || b == 120) false true ≡ true

one_of : (k b : ℕ) (x : Bool) → IsPlain k → (x ≡ true → IsPlain b) → (x || b == k) ≡ true → IsPlain b
one_of k b true p f h = f refl
one_of k b false p f h = subst IsPlain (sym (eqb-true b k h)) p

simple_is : (b : ℕ) → is_simple_escape b ≡ true → IsPlain b
simple_is b h =
    one_of 118 b _ refl (one_of 116 b _ refl (one_of 114 b _ refl (one_of 110 b _ refl (one_of 102 b _ refl (one_of 98 b _ refl
    (one_of 97 b _ refl (one_of 92 b _ refl (one_of 63 b _ refl (one_of 34 b _ refl (λ e. subst IsPlain (sym (eqb-true b 39 e)) refl)))))))))) h

plain_escape : (b : ℕ) (r : List ℕ) → IsPlain b → escape b r ≡ Simple b
plain_escape b r h = go (is_octal_digit b) (b == 120) h
  where
    go : (x y : Bool) → cond (x || y) false true ≡ true
        → cond x (Octal (take 3 (take_while is_octal_digit (b ∷ r)))) (cond y (Hexadecimal (take_while is_hexadecimal_digit r)) (Simple b)) ≡ Simple b
    go true y g = absurd cc
    go false true g = absurd cc
    go false false g = refl

-- a byte for itself is no `\`
itself : (f : ℕ → Bool) → f 92 ≡ false → (b : ℕ) (r : List ℕ) → f b ≡ true → first_element b r ≡ Itself b
itself f n b [] h = refl
itself f n b (c ∷ r) h = go (b == 92) refl
  where
    go : (x : Bool) → (b == 92) ≡ x → cond x (escape c r) (Itself b) ≡ Itself b
    go true e = let k : f 92 ≡ true = subst (λ (i : ℕ). f i ≡ true) (eqb-true b 92 e) h in absurd cc
    go false e = refl

octal_escape : (a : ℕ) (r : List ℕ) → is_octal_digit a ≡ true → escape a r ≡ Octal (a ∷ take 2 (take_while is_octal_digit r))
octal_escape a r h =
    let e : escape a r ≡ Octal (take 3 (take_while is_octal_digit (a ∷ r))) =
    ap (λ z. cond z (Octal (take 3 (take_while is_octal_digit (a ∷ r)))) (cond (a == 120) (Hexadecimal (take_while is_hexadecimal_digit r)) (Simple a))) h in
    e ∙ ap (λ ds. Octal (take 3 ds)) (run_more is_octal_digit a r h)

abbrev octals : ℕ → List ℕ → List ℕ
octals m r = take m (take_while is_octal_digit r)

octals_end : (m : ℕ) (r : List ℕ) → NotFirst is_octal_digit r → octals m r ≡ []
octals_end zero r n = refl
octals_end (suc m) [] n = refl
octals_end (suc m) (b ∷ r) n = ap (take (suc m)) (run_ends is_octal_digit b r n)

octals_more : (m b : ℕ) (r : List ℕ) → is_octal_digit b ≡ true → octals (suc m) (b ∷ r) ≡ b ∷ octals m r
octals_more m b r h = ap (take (suc m)) (run_more is_octal_digit b r h)

-- where this element begins with this byte and stands in front of the rest
element_on : (b : ℕ) (u r bs : List ℕ) (x : Element) → first_element b u ≡ x → b ∷ u ≡ written x ++ r → Writes r bs → Writes (b ∷ u) (value x ∷ bs)
element_on b u r bs x e h k = subst (λ y. b ∷ u ≡ written y ++ r → Writes (b ∷ u) (value y ∷ bs)) e (λ g. element b u r bs g k) h

first_is : (f : ℕ → Bool) → f 92 ≡ false → (c : Character) (r bs : List ℕ) → IsCharacter f c → TakesDigits c r → Writes r bs
    → Writes (ch.written c r) (value (element_of c) ∷ bs)
first_is f z (ch.Plain b) r bs h t k = element_on b r r bs (Itself b) (itself f z b r h) refl k
first_is f z (ch.Simple b) r bs h t k = element_on 92 (b ∷ r) r bs (Simple b) (plain_escape b r (simple_is b h)) refl k
first_is f z (ch.OneDigit a) r bs h t k =
    element_on 92 (a ∷ r) r bs (Octal (a ∷ [])) (octal_escape a r h ∙ ap (λ ds. Octal (a ∷ ds)) (octals_end 2 r t)) refl k
first_is f z (ch.TwoDigits a b) r bs h t k =
    element_on 92 (a ∷ b ∷ r) r bs (Octal (a ∷ b ∷ []))
    (octal_escape a (b ∷ r) (h.0) ∙ ap (λ ds. Octal (a ∷ ds)) (octals_more 1 b r (h.1) ∙ ap (λ ds. b ∷ ds) (octals_end 1 r t))) refl k
first_is f z (ch.ThreeDigits a b c) r bs h t k =
    element_on 92 (a ∷ b ∷ c ∷ r) r bs (Octal (a ∷ b ∷ c ∷ []))
    (octal_escape a (b ∷ c ∷ r) (h.0) ∙ ap (λ ds. Octal (a ∷ ds)) (octals_more 1 b (c ∷ r) (h.1) ∙ ap (λ ds. b ∷ ds) (octals_more 0 c r (h.2)))) refl k
first_is f z (ch.Hexadecimal a ds) r bs h t k =
    element_on 92 (120 ∷ a ∷ ds ++ r) r bs (Hexadecimal (a ∷ ds)) (ap Hexadecimal (take_all is_hexadecimal_digit (a ∷ ds) r (h.0) t)) refl k

-- ---- characters

not_first : (f : ℕ → Bool) (w r : List ℕ) → NotFirst f (w ++ r) → NotFirst f w
not_first f [] r n = tt
not_first f (b ∷ w) r n = n

takes_front : (c : Character) (w r : List ℕ) → TakesDigits c (w ++ r) → TakesDigits c w
takes_front (ch.Plain b) w r t = tt
takes_front (ch.Simple b) w r t = tt
takes_front (ch.OneDigit a) w r t = not_first is_octal_digit w r t
takes_front (ch.TwoDigits a b) w r t = not_first is_octal_digit w r t
takes_front (ch.ThreeDigits a b c) w r t = tt
takes_front (ch.Hexadecimal a ds) w r t = not_first is_hexadecimal_digit w r t

all_are : (f : ℕ → Bool) → f 92 ≡ false → (cs : List Character) (r : List ℕ) → AreCharacters f cs r → Writes (written_all cs []) (map value (map element_of cs))
all_are f z [] r h = nothing
all_are f z (c ∷ cs) r h =
    let w = written_all cs [] in
    let d = takes_front c w r (subst (TakesDigits c) (written_all_split cs r) (h.1)) in
    first_is f z c w (map value (map element_of cs)) (h.0) d (all_are f z cs r (h.2))

-- ---- in quotes

take_front : (w r : List ℕ) → take (length w) (w ++ r) ≡ w
take_front [] r = refl
take_front (b ∷ w) r = ap (λ l. b ∷ l) (take_front w r)

quoted : (q : ℕ) (w : List ℕ) → within_quotes (q ∷ w ++ q ∷ []) ≡ w
quoted q w =
    let e : length (q ∷ w ++ q ∷ []) - 2 ≡ length w = rw (length-append w (q ∷ [])) (omega arith) in
    ap (λ n. take n (w ++ q ∷ [])) e ∙ take_front w (q ∷ [])

writes : (f : ℕ → Bool) → f 92 ≡ false → (q : ℕ) (cs : List Character) → AreCharacters f cs (q ∷ [])
    → Writes (within_quotes (q ∷ written_all cs (q ∷ []))) (map value (map element_of cs))
writes f z q cs t =
    let e = ap (λ w. within_quotes (q ∷ w)) (written_all_split cs (q ∷ [])) ∙ quoted q (written_all cs []) in
    subst (λ v. Writes v (map value (map element_of cs))) (sym e) (all_are f z cs (q ∷ []) t)

-- a text writes the values of its characters
pub text_writes : (cs : List Character) → AreCharacters is_text_byte cs (34 ∷ [])
    → Writes (within_quotes (l.spelled (l.Text cs) [])) (map value (map element_of cs))
text_writes cs t = writes is_text_byte refl 34 cs t

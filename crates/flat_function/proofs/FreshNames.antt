-- A fresh name is a name, and is not used.
use Rattle.std.proofs.Common.{◌≡◌, ℕ, zero, suc, ◌+◌, ◌≤◌, ◌<◌, ◌^◌, ◌%◌, ◌/◌, ◌==◌, ◌||◌, Bool, true, false, true≢false, cond, codes, List, [], ◌∷◌, ◌++◌, length, refl, sym, ap, ◌∙◌, arith}
use Rattle.std.specs.List.{list_any, list_all}
use Rattle.std.specs.Str.{bytes_eq}
use Rattle.std.specs.Fmt.{decimal, digits, digits_onto, digit_glyph}
use Rattle.std.specs.Ordering.{match_ordering}
use Rattle.std.specs.declared.cmp.Ordering.{Ordering}
use Rattle.std.specs.declared.cmp.Ordering.TheVariants.{Less, Equal, Greater}
use Rattle.std.proofs.lemmas.Slice.Eq.{bytes_eq-Decides}
use Rattle.std.proofs.lemmas.Bool.{and_from, or_right, or_left}
use Rattle.c_types.specs.Words.{name_cmp, is_letter, is_digit, is_word_byte, is_word, keywords, is_keyword}
use Rattle.c_copies.specs.Names.{has_name, with_name}
use Rattle.c_copies.proofs.Rising.{has_name-with_name}
use Rattle.c_fresh_names.specs.Fresh.{numbered, first_free, fresh}
use Rattle.c_fresh_names.proofs.NameSets.{found_unused}
use Rattle.c_resolved_defs.specs.PrintableExpressions.{IsName}
use Rattle.whole_laws.proofs.GuardWords.{IsTail, tail_append, decimal_tail, and_first, and_second, glyph_digit}

-- ---- words that end in a digit

abbrev last_digit : List ℕ → Bool
last_digit [] = false
last_digit (c ∷ []) = is_digit c
last_digit (c ∷ d ∷ w) = last_digit (d ∷ w)

digit_more : (c : ℕ) (w : List ℕ) → last_digit w ≡ true → last_digit (c ∷ w) ≡ true
digit_more c [] e = cc
digit_more c (d ∷ w) e = e

digit_append : (a b : List ℕ) → last_digit b ≡ true → last_digit (a ++ b) ≡ true
digit_append [] b e = e
digit_append (c ∷ a) b e = digit_more c (a ++ b) (digit_append a b e)

choose : (b : Bool) (x y : List ℕ) → last_digit x ≡ true → last_digit y ≡ true → last_digit (cond b x y) ≡ true
choose true x y h k = h
choose false x y h k = k

digits_end : (k n : ℕ) (acc : List ℕ) → last_digit acc ≡ true → last_digit (digits_onto k 10 false n acc) ≡ true
digits_end zero n acc h = h
digits_end (suc k) n acc h =
    let d = digit_glyph false (n % 10) in
    let one = digit_more d acc h in
    choose (n / 10 == 0) (d ∷ acc) (digits_onto k 10 false (n / 10) (d ∷ acc)) one (digits_end k (n / 10) (d ∷ acc) one)

digits_first : (k n : ℕ) → last_digit (digits_onto (suc k) 10 false n []) ≡ true
digits_first k n =
    let d = digit_glyph false (n % 10) in
    let one : last_digit (d ∷ []) ≡ true = glyph_digit (n % 10) (omega arith) in
    choose (n / 10 == 0) (d ∷ []) (digits_onto k 10 false (n / 10) (d ∷ [])) one (digits_end k (n / 10) (d ∷ []) one)

decimal_end : (n : ℕ) → last_digit (decimal n) ≡ true
unfolding digits
decimal_end n = digits_first 63 n

not_any : (ks : List (List ℕ)) (w : List ℕ) → list_any last_digit ks ≡ false → last_digit w ≡ true → list_any (λ k. bytes_eq k w) ks ≡ false
not_any [] w e h = refl
not_any (k ∷ ks) w e h = at (λ i. not_any ks w i h) (bytes_eq k w) refl
  where
    neither : (a b : Bool) → (a || b) ≡ false → (a ≡ false) × (b ≡ false)
    neither true b i = cc
    neither false b i = (refl, i)

    at : (list_any last_digit ks ≡ false → list_any (λ j. bytes_eq j w) ks ≡ false) → (b : Bool) → bytes_eq k w ≡ b →
        (bytes_eq k w || list_any (λ j. bytes_eq j w) ks) ≡ false
    at rest true i = let same = (bytes_eq-Decides k w).0 i in absurd (true≢false (sym (ap last_digit same ∙ h) ∙ (neither (last_digit k) _ e).0))
    at rest false i = ap (λ b. b || list_any (λ j. bytes_eq j w) ks) i ∙ rest (neither (last_digit k) _ e).1

no_keyword : (w : List ℕ) → last_digit w ≡ true → is_keyword w ≡ false
no_keyword w h = not_any keywords w refl h

-- ---- numbered names

word_more : (w t : List ℕ) → is_word w ≡ true → IsTail t → is_word (w ++ t) ≡ true
word_more [] t e h = cc
word_more (c ∷ w) t e h = and_from (is_letter c) (list_all is_word_byte (w ++ t)) (and_first (is_letter c) _ e)
    (tail_append w t (and_second (is_letter c) _ e) h)

pub numbered_name : (w : List ℕ) (n : ℕ) → is_word w ≡ true → IsName (numbered w n)
numbered_name w n e = (
  word_more (w ++ codes "_") (decimal n) (word_more w (codes "_") e refl) (decimal_tail n),
  no_keyword (numbered w n) (digit_append (w ++ codes "_") (decimal n) (decimal_end n)),
)

name_cond : (b : Bool) (v w : List ℕ) → IsName v → IsName w → IsName (cond b v w)
name_cond true v w h k = h
name_cond false v w h k = k

free_name : (used : List (List ℕ)) (w : List ℕ) (n k : ℕ) → is_word w ≡ true → IsName (first_free used w n k)
free_name used w n zero e = numbered_name w n e
free_name used w n (suc k) e = name_cond (has_name used (numbered w n)) (first_free used w (n + 1) k) (numbered w n) (free_name used w (n + 1) k e)
    (numbered_name w n e)

pub fresh_name : (used : List (List ℕ)) (w : List ℕ) → IsName w → IsName (fresh w used)
fresh_name used w h = name_cond (has_name used w) (first_free used w 2 (length used)) w (free_name used w 2 (length used) h.0) h

pub fresh_unused : (used : List (List ℕ)) (w : List ℕ) → 2 + length used < 2 ^ 64 → has_name used (fresh w used) ≡ false
fresh_unused used w h = at (has_name used w) refl
  where
    at : (b : Bool) → has_name used w ≡ b → has_name used (fresh w used) ≡ false
    at true e = ap (λ b. has_name used (cond b (first_free used w 2 (length used)) w)) e ∙ found_unused used w h
    at false e = ap (λ b. has_name used (cond b (first_free used w 2 (length used)) w)) e ∙ e

-- ---- sets of names grow

abbrev pub Grows : List (List ℕ) → List (List ℕ) → Type 0
Grows us vs = ((q : List ℕ) → has_name us q ≡ true → has_name vs q ≡ true) × (length us ≤ length vs)

pub grows_self : (us : List (List ℕ)) → Grows us us
grows_self us = (λ q e. e, omega arith)

pub grows_then : (us vs ws : List (List ℕ)) → Grows us vs → Grows vs ws → Grows us ws
grows_then us vs ws h k = (λ q e. k.0 q (h.0 q e), (let a = h.1 in let b = k.1 in omega (arith, a, b)))

longer_at : (o : Ordering) (n x : List ℕ) (xs more : List (List ℕ)) → length xs ≤ length more →
    length (x ∷ xs) ≤ length (match_ordering o (n ∷ x ∷ xs) (x ∷ xs) (x ∷ more))
longer_at Less n x xs more h = omega arith
longer_at Equal n x xs more h = omega arith
longer_at Greater n x xs more h = omega (arith, h)

longer : (us : List (List ℕ)) (n : List ℕ) → length us ≤ length (with_name us n)
longer [] n = omega arith
longer (x ∷ us) n = longer_at (name_cmp n x) n x us (with_name us n) (longer us n)

pub grows_with : (us : List (List ℕ)) (n : List ℕ) → Grows us (with_name us n)
grows_with us n = (λ q e. has_name-with_name us n q ∙ or_right (bytes_eq q n) (has_name us q) e, longer us n)

pub own_with : (us : List (List ℕ)) (n : List ℕ) → has_name (with_name us n) n ≡ true
own_with us n = has_name-with_name us n n ∙ or_left (bytes_eq n n) (has_name us n) ((bytes_eq-Decides n n).1 refl)

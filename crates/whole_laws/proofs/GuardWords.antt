-- The name of a guard is a name of C, and that of no known function.
use Rattle.std.proofs.Common.{◌≡◌, ℕ, zero, suc, ◌+◌, ◌<◌, ◌%◌, ◌/◌, ◌==◌, ◌&&◌, Bool, true, false, cond, codes, List, [], ◌∷◌, ◌++◌, length, refl, sym, ap, subst, ◌∙◌, arith, append_assoc}
use Rattle.std.specs.List.{list_all, AllByRecursion}
use Rattle.std.specs.Fmt.{decimal, digits, digits_onto, digit_glyph}
use Rattle.std.proofs.lemmas.Bool.Decides.{nat_tests}
use Rattle.std.proofs.lemmas.Bool.{and_from, or_left, or_right}
use Rattle.c_types.specs.Words.{is_letter, is_digit, is_word_byte, is_word, is_keyword, is_known}
use Rattle.c_copies.specs.Names.{has_name, with_name}
use Rattle.c_fresh_names.specs.Fresh.{numbered, first_free, fresh}
use Rattle.guard_vars.specs.GuardNames.{guard_name, named_guards}
use Rattle.c_resolved_defs.specs.PrintableExpressions.{IsName}

-- ---- bytes of words

abbrev pub IsTail : List ℕ → Type 0
IsTail w = list_all is_word_byte w ≡ true

pub and_first : (a b : Bool) → (a && b) ≡ true → a ≡ true
and_first true b e = refl
and_first false b e = e

pub and_second : (a b : Bool) → (a && b) ≡ true → b ≡ true
and_second true b e = e
and_second false b e = cc

pub tail_append : (a b : List ℕ) → IsTail a → IsTail b → IsTail (a ++ b)
tail_append [] b h g = g
tail_append (c ∷ a) b h g = and_from (is_word_byte c) (list_all is_word_byte (a ++ b)) (and_first (is_word_byte c) _ h)
    (tail_append a b (and_second (is_word_byte c) _ h) g)

pub word_tail : (w : List ℕ) → is_word w ≡ true → IsTail w
word_tail [] e = cc
word_tail (c ∷ cs) e = and_from (is_word_byte c) (list_all is_word_byte cs) (or_left (is_letter c) (is_digit c) (and_first (is_letter c) _ e))
    (and_second (is_letter c) _ e)

-- ---- numbers

pub glyph_digit : (d : ℕ) → d < 10 → is_digit (digit_glyph false d) ≡ true
glyph_digit d h = grind (arith, nat_tests)

digits_tail : (k n : ℕ) (acc : List ℕ) → IsTail acc → IsTail (digits_onto k 10 false n acc)
digits_tail zero n acc h = h
digits_tail (suc k) n acc h =
    let d = digit_glyph false (n % 10) in
    let one : IsTail (d ∷ acc) = and_from (is_word_byte d) (list_all is_word_byte acc)
    (or_right (is_letter d) (is_digit d) (glyph_digit (n % 10) (omega arith))) h in
    cond_tail (n / 10 == 0) (d ∷ acc) (digits_onto k 10 false (n / 10) (d ∷ acc)) one (digits_tail k (n / 10) (d ∷ acc) one)
  where
    cond_tail : (b : Bool) (x y : List ℕ) → IsTail x → IsTail y → IsTail (cond b x y)
    cond_tail true x y p q = p
    cond_tail false x y p q = q

pub decimal_tail : (n : ℕ) → IsTail (decimal n)
unfolding digits
decimal_tail n = digits_tail 64 n [] refl

-- ---- names of guards

-- a name that begins so
pub record IsGuardName (w : List ℕ) : Type 0 where
  pub rest : List ℕ
  pub is : w ≡ codes "goto_" ++ rest
  pub tail : IsTail rest

of_label : (l : List ℕ) → IsName l → IsGuardName (codes "goto_" ++ l)
of_label l n = record { rest = l; is = refl; tail = word_tail l n.0 }

of_more : (w t : List ℕ) → IsTail t → IsGuardName w → IsGuardName (w ++ t)
of_more w t h g = record { rest = g.rest ++ t; is = ap (λ v. v ++ t) g.is ∙ append_assoc (codes "goto_") g.rest t; tail = tail_append g.rest t g.tail h }

of_digits : (w d : List ℕ) → IsTail d → IsGuardName w → IsGuardName (w ++ codes "_" ++ d)
of_digits w d h g = of_more (w ++ codes "_") d h (of_more w (codes "_") refl g)

of_number : (w : List ℕ) (n : ℕ) → IsGuardName w → IsGuardName (numbered w n)
of_number w n g = of_digits w (decimal n) (decimal_tail n) g

of_cond : (b : Bool) (v w : List ℕ) → IsGuardName v → IsGuardName w → IsGuardName (cond b v w)
of_cond true v w g h = g
of_cond false v w g h = h

of_free : (used : List (List ℕ)) (w : List ℕ) (n k : ℕ) → IsGuardName w → IsGuardName (first_free used w n k)
of_free used w n zero g = of_number w n g
of_free used w n (suc k) g = of_cond (has_name used (numbered w n)) (first_free used w (n + 1) k) (numbered w n) (of_free used w (n + 1) k g) (of_number w n g)

of_fresh : (used : List (List ℕ)) (w : List ℕ) → IsGuardName w → IsGuardName (fresh w used)
of_fresh used w g = of_cond (has_name used w) (first_free used w 2 (length used)) w (of_free used w 2 (length used) g) g

pub are_guard_names : (used ls : List (List ℕ)) → AllByRecursion IsName ls → AllByRecursion IsGuardName (named_guards used ls)
are_guard_names used [] h = tt
are_guard_names used (l ∷ ls) h = (of_fresh used (codes "goto_" ++ l) (of_label l h.0), are_guard_names (with_name used (guard_name l used)) ls h.1)

-- ---- what they are

starts_word : (r : List ℕ) → IsTail r → is_word (codes "goto_" ++ r) ≡ true
starts_word r h = h

no_keyword : (r : List ℕ) → is_keyword (codes "goto_" ++ r) ≡ false
no_keyword r = refl

not_known : (r : List ℕ) → is_known (codes "goto_" ++ r) ≡ false
not_known r = refl

pub guard_is_name : (w : List ℕ) → IsGuardName w → IsName w
guard_is_name w g = subst IsName (sym g.is) (starts_word g.rest g.tail, no_keyword g.rest)

pub guard_unknown : (w : List ℕ) → IsGuardName w → is_known w ≡ false
guard_unknown w g = subst (λ v. is_known v ≡ false) (sym g.is) (not_known g.rest)

pub guard_some : (w : List ℕ) → IsGuardName w → w ≡ [] → ⊥
guard_some w g e = let h : codes "goto_" ++ g.rest ≡ [] = sym g.is ∙ e in cc

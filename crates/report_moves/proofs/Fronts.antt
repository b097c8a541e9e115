-- Where a part of a line ends.
use Rattle.std.proofs.Common.{◌≡◌, ℕ, ◌<◌, ◌^◌, List, [], ◌∷◌, ◌++◌, Bool, true, false, refl, sym, ap, ◌∙◌, arith}
use Rattle.std.specs.List.{list_all}
use Rattle.std.specs.Fmt.{decimal}
use Rattle.std.proofs.lemmas.Bool.{false≢true}
use Rattle.std.proofs.lemmas.Bool.Decides.{nat_tests}
use Rattle.std.proofs.lemmas.Str.Parse.{numerals_by_value}
use Rattle.std.proofs.lemmas.Fmt.{digits_decimal}
use Rattle.c_types.specs.Words.{is_digit, is_letter, is_word_byte, is_word}
use Rattle.c_tree.specs.declared.tree.Branch.{Branch}
use Rattle.c_tree.specs.declared.tree.Branch.TheVariants as B
use Rattle.report_moves.specs.declared.moves.MoveKind.{MoveKind}
use Rattle.report_moves.specs.declared.moves.MoveKind.TheVariants.{Out, Lift, Inward, Join}
use Rattle.report_moves.specs.Report.{Of, is_no_space, is_no_dot, is_name, kind_text, branch_text, IsBranch}

-- a front of one class, and a byte of another: both are given by the whole
pub front_unique : (d : ℕ → Bool) (f g r s : List ℕ) (a b : ℕ) → Of d f → Of d g → d a ≡ false → d b ≡ false → f ++ a ∷ r ≡ g ++ b ∷ s →
    (f ≡ g) × (a ≡ b) × (r ≡ s)
front_unique d [] [] r s a b p q x y e = let h : a ≡ b = cc in let t : r ≡ s = cc in (refl, h, t)
front_unique d [] (c ∷ g) r s a b p q x y e = let h : a ≡ c = cc in absurd (false≢true (sym x ∙ ap d h ∙ q.0))
front_unique d (c ∷ f) [] r s a b p q x y e = let h : b ≡ c = cc in absurd (false≢true (sym y ∙ ap d h ∙ p.0))
front_unique d (c ∷ f) (k ∷ g) r s a b p q x y e =
    let h : c ≡ k = cc in
    let t : f ++ a ∷ r ≡ g ++ b ∷ s = cc in
    let u = front_unique d f g r s a b p.1 q.1 x y t in
    let v : f ≡ g = u.0 in
    (cc, u.1, u.2)

-- what holds of a class holds of a wider one
pub wider : (d e : ℕ → Bool) → ((c : ℕ) → d c ≡ true → e c ≡ true) → (xs : List ℕ) → Of d xs → Of e xs
wider d e w [] h = tt
wider d e w (c ∷ cs) h = (w c h.0, wider d e w cs h.1)

pub of_all : (d : ℕ → Bool) (xs : List ℕ) → list_all d xs ≡ true → Of d xs
of_all d [] h = tt
of_all d (c ∷ cs) h = let p : (d c ≡ true) × (list_all d cs ≡ true) = grind arith in (p.0, of_all d cs p.1)

-- ---- the classes

pub digit_no_dot : (c : ℕ) → is_digit c ≡ true → is_no_dot c ≡ true
digit_no_dot c h = grind (arith, nat_tests)

pub digits : (n : ℕ) → n < 2 ^ 64 → Of is_digit (decimal n)
digits n h = digits_decimal (numerals_by_value (Of is_digit)
    (record { empty = tt; parts = λ c cs p. (grind (arith, nat_tests), p.1); more = λ c cs r p. (grind (arith, nat_tests), p) })) n h

-- ---- the parts of a line

word_no_space : (c : ℕ) → is_word_byte c ≡ true → is_no_space c ≡ true
word_no_space c h = grind (arith, nat_tests)

word_bytes : (w : List ℕ) → is_word w ≡ true → Of is_word_byte w
word_bytes [] h = tt
word_bytes (c ∷ cs) h =
    let p : (is_letter c ≡ true) × (list_all is_word_byte cs ≡ true) = grind arith in
    let q : is_word_byte c ≡ true = grind arith in
    (q, of_all is_word_byte cs p.1)

pub name_front : (w : List ℕ) → is_name w ≡ true → Of is_no_space w
name_front w h =
    let p : is_word w ≡ true = grind arith in
    wider is_word_byte is_no_space word_no_space w (word_bytes w p)

pub kind_front : (k : MoveKind) → Of is_no_space (kind_text k)
kind_front Out = (refl, (refl, (refl, tt)))
kind_front Lift = (refl, (refl, (refl, (refl, tt))))
kind_front Inward = (refl, (refl, tt))
kind_front Join = (refl, (refl, (refl, (refl, tt))))
kind_front _ = (refl, (refl, tt))

pub branch_front : (b : Branch) → IsBranch b → Of is_no_dot (branch_text b)
branch_front (B.Section k) h = (refl, wider is_digit is_no_dot digit_no_dot (decimal k) (digits k (omega arith)))
branch_front _ h = (refl, tt)

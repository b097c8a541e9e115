-- Comments and directives that break off are no pieces, and no other piece begins there.
use Rattle.std.proofs.Common.{◌≡◌, ℕ, Bool, true, false, ◌||◌, ◌==◌, List, [], ◌∷◌, ◌++◌, refl, ap, sym, ◌∙◌, subst}
use Rattle.c_types.specs.Words.{is_letter, is_digit}
use Rattle.c_lexer.specs.declared.mark.Mark.{Mark}
use Rattle.c_lexer.specs.declared.mark.Mark.TheVariants.{Plus, Slash, SlashEquals}
use Rattle.c_lexer.specs.Bytes.{is_space, NotFirst}
use Rattle.c_lexer.specs.Marks.{mark_text}
use Rattle.c_lexer.specs.Pieces.{Space, Word, Number, Char, Text, Sign, Directive, Line, Block}
use Rattle.c_lexer.specs.Faults.{HasNoPiece}
use Rattle.c_lexer.proofs.Truths.{both_true}
use Rattle.c_lexer.proofs.Lines.{is_whole, whole_line}

abbrev first_of : List ℕ → ℕ
first_of [] = 0
first_of (b ∷ w) = b

abbrev rest_of : List ℕ → List ℕ
rest_of [] = []
rest_of (b ∷ w) = w

-- the first byte tells these apart
apart : (u v : List ℕ) (f : ℕ → Bool) → f (first_of u) ≡ false → f (first_of v) ≡ true → u ≡ v → ⊥
apart u v f h k e = let y : false ≡ true = sym h ∙ ap (λ (w : List ℕ). f (first_of w)) e ∙ k in absurd cc

unlike : (a b : Bool) → a ≡ true → b ≡ false → a ≡ b → ⊥
unlike a b h k e = let y : true ≡ false = sym h ∙ e ∙ k in absurd cc

sign_slash : (m : Mark) (x r : List ℕ) → 47 ∷ 47 ∷ x ≡ mark_text m ++ r → (m ≡ Slash → NotFirst (λ b. b == 42 || b == 47) r) → ⊥
sign_slash Slash x r e l = let y : true ≡ false = subst (NotFirst (λ b. b == 42 || b == 47)) (sym (ap rest_of e)) (l refl) in absurd cc
sign_slash SlashEquals x r e l = apart (47 ∷ x) (61 ∷ r) (λ b. b == 61) refl refl (ap rest_of e)
sign_slash _ x r e l = let y : true ≡ false = ap (λ (w : List ℕ). first_of w == 47) e in absurd cc

sign_hash : (m : Mark) (x r : List ℕ) → 35 ∷ x ≡ mark_text m ++ r → ⊥
sign_hash Plus x r e = let y : true ≡ false = ap (λ (w : List ℕ). first_of w == 35) e in absurd cc
sign_hash _ x r e = let y : true ≡ false = ap (λ (w : List ℕ). first_of w == 35) e in absurd cc

pub no_comment : (first : Bool) (x : List ℕ) → is_whole x ≡ false → HasNoPiece first (47 ∷ 47 ∷ x)
no_comment first x h (Space b) r e f l = apart _ (b ∷ r) is_space refl f e
no_comment first x h (Word []) r e f l = absurd cc
no_comment first x h (Word (b ∷ w)) r e f l = apart _ (b ∷ w ++ r) is_letter refl (both_true (is_letter b) _ f).0 e
no_comment first x h (Number []) r e f l = absurd (let y = f.0 in cc)
no_comment first x h (Number (b ∷ w)) r e f l = apart _ (b ∷ w ++ r) is_digit refl (both_true (is_digit b) _ f.0).0 e
no_comment first x h (Char c) r e f l = apart _ _ (λ b. b == 39) refl refl e
no_comment first x h (Text cs) r e f l = apart _ _ (λ b. b == 34) refl refl e
no_comment first x h (Sign m) r e f l = sign_slash m x r e l.1
no_comment first x h (Directive w) r e f l = apart _ _ (λ b. b == 35) refl refl e
no_comment first x h (Line w) r e f l = unlike (is_whole (w ++ r)) (is_whole x) (whole_line w r l.0 l.1) h (ap is_whole (sym (ap rest_of (ap rest_of e))))
no_comment first x h (Block w) r e f l = apart (47 ∷ x) (42 ∷ w ++ r) (λ b. b == 42) refl refl (ap rest_of e)

pub no_directive : (first : Bool) (x : List ℕ) → is_whole x ≡ false → HasNoPiece first (35 ∷ x)
no_directive first x h (Space b) r e f l = apart _ (b ∷ r) is_space refl f e
no_directive first x h (Word []) r e f l = absurd cc
no_directive first x h (Word (b ∷ w)) r e f l = apart _ (b ∷ w ++ r) is_letter refl (both_true (is_letter b) _ f).0 e
no_directive first x h (Number []) r e f l = absurd (let y = f.0 in cc)
no_directive first x h (Number (b ∷ w)) r e f l = apart _ (b ∷ w ++ r) is_digit refl (both_true (is_digit b) _ f.0).0 e
no_directive first x h (Char c) r e f l = apart _ _ (λ b. b == 39) refl refl e
no_directive first x h (Text cs) r e f l = apart _ _ (λ b. b == 34) refl refl e
no_directive first x h (Sign m) r e f l = sign_hash m x r e
no_directive first x h (Directive w) r e f l = unlike (is_whole (w ++ r)) (is_whole x) (whole_line w r l.0 l.1) h (ap is_whole (sym (ap rest_of e)))
no_directive first x h _ r e f l = apart _ _ (λ b. b == 47) refl refl e

-- The mark that bytes grow to is the mark that they are.
use Rattle.std.proofs.Common.{◌≡◌, ℕ, Bool, true, false, not, cond, List, [], ◌∷◌, ◌++◌, Option, Some, None, refl, ap, sym, ◌∙◌, append_assoc}
use Rattle.std.specs.Prelude.{find}
use Rattle.std.specs.List.{list_all}
use Rattle.std.specs.Str.{bytes_eq}
use Rattle.std.proofs.lemmas.Slice.Eq.{bytes_eq-Decides}
use Rattle.std.proofs.lemmas.List.{append-nil}
use Rattle.c_lexer.specs.declared.mark.Mark.{Mark}
use Rattle.c_lexer.specs.declared.mark.Mark.TheVariants.{OpenBracket, CloseBracket, OpenParenthesis, CloseParenthesis, OpenBrace, CloseBrace, Dot, Arrow, PlusPlus, MinusMinus, Ampersand, Star, Plus, Minus, Tilde, Exclamation, Slash, Percent, ShiftLeft, ShiftRight, Less, Greater, LessEquals, GreaterEquals, EqualsEquals, ExclamationEquals, Caret, Bar, AmpersandAmpersand, BarBar, Question, Colon, Semicolon, Ellipsis}
use Rattle.c_lexer.specs.Marks.{mark_text, marks, mark_of}
use Rattle.c_lexer.specs.MarkSteps.{mark_at, longer, grown, grown_mark}
use Rattle.c_lexer.proofs.MarkLemmas.{longer_text, mark_first, is_ellipsis, grows}
use Rattle.c_lexer.proofs.Truths.{both_true, not_true}

some_same : (m n : Mark) → Some m ≡ Some n → m ≡ n
some_same m n e = cc

found_at : (p q : Mark → Bool) (n m : Mark) (c : Bool) (o : Option Mark) → p n ≡ c → q n ≡ true → (o ≡ Some m → (p m ≡ true) × (q m ≡ true)) →
    cond c (Some n) o ≡ Some m → (p m ≡ true) × (q m ≡ true)
found_at p q n m true o f h k e = let x = some_same n m e in (ap p (sym x) ∙ f, ap q (sym x) ∙ h)
found_at p q n m false o f h k e = k e

-- what is found passes the test, and another that all of the list pass
found : (p q : Mark → Bool) (ms : List Mark) (m : Mark) → list_all q ms ≡ true → find p ms ≡ Some m → (p m ≡ true) × (q m ≡ true)
found p q [] m h e = absurd cc
found p q (n ∷ ms) m h e =
    let k = both_true (q n) (list_all q ms) h in
    found_at p q n m (p n) (find p ms) refl k.0 (λ g. found p q ms m k.1 g) e

-- bytes that grow to a mark are its bytes
grown_text : (o : Option Mark) (u w : List ℕ) → ((n : Mark) → o ≡ Some n → mark_text n ≡ u) → (m : Mark) → grown o w ≡ Some m → mark_text m ≡ u ++ w
grown_text None u w f m e = absurd cc
grown_text (Some n) u [] f m e = f m e ∙ sym (append-nil u)
grown_text (Some n) u (b ∷ w) f m e =
    grown_text (longer n b) (u ++ b ∷ []) w (λ k g. longer_text n k b g ∙ ap (λ (v : List ℕ). v ++ b ∷ []) (f n refl)) m e ∙ append_assoc u (b ∷ []) w

text_grown : (w : List ℕ) (m : Mark) → grown_mark w ≡ Some m → mark_text m ≡ w
text_grown [] m e = absurd cc
text_grown (b ∷ w) m e = grown_text (mark_at b) (b ∷ []) w (λ n f. mark_first b n f) m e

-- each mark but `...` stands under its bytes
in_table : (m : Mark) → grown_mark (mark_text m) ≡ Some m → mark_of (mark_text m) ≡ Some m
in_table OpenBracket h = refl
in_table CloseBracket h = refl
in_table OpenParenthesis h = refl
in_table CloseParenthesis h = refl
in_table OpenBrace h = refl
in_table CloseBrace h = refl
in_table Dot h = refl
in_table Arrow h = refl
in_table PlusPlus h = refl
in_table MinusMinus h = refl
in_table Ampersand h = refl
in_table Star h = refl
in_table Plus h = refl
in_table Minus h = refl
in_table Tilde h = refl
in_table Exclamation h = refl
in_table Slash h = refl
in_table Percent h = refl
in_table ShiftLeft h = refl
in_table ShiftRight h = refl
in_table Less h = refl
in_table Greater h = refl
in_table LessEquals h = refl
in_table GreaterEquals h = refl
in_table EqualsEquals h = refl
in_table ExclamationEquals h = refl
in_table Caret h = refl
in_table Bar h = refl
in_table AmpersandAmpersand h = refl
in_table BarBar h = refl
in_table Question h = refl
in_table Colon h = refl
in_table Semicolon h = refl
in_table Ellipsis h = absurd cc
in_table _ h = refl

-- a mark that stands under these bytes grows from them
from_table : (b : ℕ) (w : List ℕ) (m : Mark) → mark_of (b ∷ w) ≡ Some m → grown_mark (b ∷ w) ≡ Some m
from_table b w m e =
    let h = found (λ n. bytes_eq (b ∷ w) (mark_text n)) (λ n. not (is_ellipsis n)) marks m refl e in
    ap grown_mark ((bytes_eq-Decides (b ∷ w) (mark_text m)).0 h.0) ∙ grows m (not_true (is_ellipsis m) h.1)

pub mark_is : (w : List ℕ) → grown_mark w ≡ mark_of w
mark_is [] = refl
mark_is (b ∷ w) = go (grown_mark (b ∷ w)) refl
  where
    none : (o : Option Mark) → mark_of (b ∷ w) ≡ o → grown_mark (b ∷ w) ≡ None → None ≡ o
    none None e h = refl
    none (Some m) e h = sym h ∙ from_table b w m e

    go : (o : Option Mark) → grown_mark (b ∷ w) ≡ o → o ≡ mark_of (b ∷ w)
    go None h = none (mark_of (b ∷ w)) refl h
    go (Some m) h = let x = text_grown (b ∷ w) m h in sym (ap mark_of (sym x) ∙ in_table m (ap grown_mark x ∙ h))

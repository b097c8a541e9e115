-- The directives of a text are `#include` lines.
use Rattle.std.proofs.Common.{◌≡◌, ◌+◌, ℕ, Bool, true, false, cond, not, ◌&&◌, ◌==◌, suc, List, [], ◌∷◌, ◌++◌, drop, get_or, Option, Some, None, refl, ap, sym, ◌∙◌, arith}
use Rattle.std.specs.Prelude.{codes, slice_range, nat_eq}
use Rattle.std.specs.List.{prefix_len, starts_with}
use Rattle.std.proofs.lemmas.Bool.Decides.{Decides-eqb}
use Rattle.std.proofs.lemmas.Slice.Eq.{starts_is}
use Rattle.c_types.specs.Words.{is_word_byte, is_keyword}
use Rattle.c_lexer.specs.declared.token.Token.{Token}
use Rattle.c_lexer.specs.declared.token.TokenKind.{TokenKind}
use Rattle.c_lexer.specs.declared.token.TokenKind.TheVariants as k
use Rattle.c_lexer.specs.declared.mark.Mark.{Mark}
use Rattle.c_lexer.specs.declared.mark.Mark.TheVariants as m
use Rattle.c_lexer.specs.Marks.{mark_of}
use Rattle.c_lexer.specs.Bytes.{is_blank}
use Rattle.c_lexer.specs.Pieces.{Piece, bare, onto_bare, begins_with_include, is_include, tokens_of, Fits, Longest, Spells}
use Rattle.c_lexer.specs.Pieces as l
use Rattle.c_lexer.specs.IncludeSteps.{leaves_open}
use Rattle.c_lexer.proofs.IncludeLemmas.{directive_decided}
use Rattle.c_lexer.proofs.OpenLines.{leaves_bare}
use Rattle.c_lexer.proofs.Truths.{both_true}
use Rattle.c_grammar.specs.declared.class.Class.{Class}
use Rattle.c_grammar.specs.declared.class.Class.TheVariants as c
use Rattle.c_grammar.specs.TokenClasses.{class_of, class_of_bytes, class_of_found, classes_of}
use Rattle.c_grammar.specs.Words.{word_of}
use Rattle.c_resolved_defs.specs.Verbatims.{IsDirective, IsOneLine}
use Rattle.c_resolved_defs.specs.Within.{Each}
use Rattle.print_laws.specs.Reread.{Spelling, spelling_of}
use Rattle.c_source_laws.specs.Directives.{IsDirectiveToken}
use Rattle.c_source_laws.proofs.Lines.{one_line}
use Rattle.c_source_laws.proofs.Numbered.{each_token, Along, along}
use Rattle.c_source_laws.proofs.Classes.{apart, from_keyword}

-- ---- the word `include` stands in the bare line too

word_bare : (u : List ℕ) → onto_bare 105 (onto_bare 110 (onto_bare 99 (onto_bare 108 (onto_bare 117 (onto_bare 100 (onto_bare 101 u)))))) ≡ codes "include" ++ u
word_bare [] = refl
word_bare (b ∷ u) = refl

abbrev ends_word : List ℕ → Bool
ends_word v = not (is_word_byte (get_or v 0 0))

end_bare : (v : List ℕ) → ends_word v ≡ true → ends_word (bare v) ≡ true
end_bare [] h = h
end_bare (b ∷ v) h = by_rest (bare v)
  where
    by_return : (x : Bool) → ends_word (cond x [] (b ∷ [])) ≡ true
    by_return true = refl
    by_return false = h

    by_rest : (u : List ℕ) → ends_word (onto_bare b u) ≡ true
    by_rest [] = by_return (b == 13)
    by_rest (d ∷ u) = h

word_there : (w v : List ℕ) → w ≡ codes "include" ++ v → is_include w ≡ true → is_include (bare w) ≡ true
word_there w v e h =
    let f = word_bare (bare v) in
    ap (λ x. is_include (bare x)) e ∙ ap is_include f ∙ end_bare v (ap is_include (sym e) ∙ h)

blank_on : (b : ℕ) (w : List ℕ) → is_blank b ≡ true → is_include (b ∷ w) ≡ is_include w
blank_on b w e =
    let n = prefix_len is_blank w in
    let m : 1 + n ≡ suc n = omega arith in
    ap (λ x. begins_with_include (drop (cond x (1 + n) 0) (b ∷ w))) e ∙ ap (λ i. begins_with_include (drop i (b ∷ w))) m

other_on : (b : ℕ) (w : List ℕ) → is_blank b ≡ false → is_include (b ∷ w) ≡ begins_with_include (b ∷ w)
other_on b w e = ap (λ x. begins_with_include (drop (cond x (1 + prefix_len is_blank w) 0) (b ∷ w))) e

include_bare : (w : List ℕ) → is_include w ≡ true → is_include (bare w) ≡ true
include_bare [] h = h
include_bare (b ∷ w) h = by_blank (is_blank b) refl (λ g. include_bare w g)
  where
    onto : (u : List ℕ) → is_blank b ≡ true → is_include u ≡ true → is_include (onto_bare b u) ≡ true
    onto [] e g = absurd cc
    onto (d ∷ u) e g = blank_on b (d ∷ u) e ∙ g

    by_blank : (x : Bool) → is_blank b ≡ x → (is_include w ≡ true → is_include (bare w) ≡ true) → is_include (bare (b ∷ w)) ≡ true
    by_blank true e f = onto (bare w) e (f (sym (blank_on b w e) ∙ h))
    by_blank false e f =
        let g = both_true (starts_with nat_eq (b ∷ w) (codes "include")) _ (sym (other_on b w e) ∙ h) in
        word_there (b ∷ w) (drop 7 (b ∷ w)) ((starts_is Decides-eqb (b ∷ w) (codes "include") true (sym (g.0))).0 refl) h

-- ---- no comment is open behind it either

both : (x y : Bool) → x ≡ true → y ≡ true → (x && y) ≡ true
both x y h k = rw (h, k) refl

directive_bare : (w : List ℕ) → l.IsDirective w → l.IsDirective (bare w)
directive_bare w h =
    let m = both_true (is_include w) (not (leaves_open w)) ((directive_decided w).1 h) in
    (directive_decided (bare w)).0 (both (is_include (bare w)) (not (leaves_open (bare w))) (include_bare w (m.0)) (ap not (leaves_bare w) ∙ m.1))

-- ---- directives

directive_is : (w : List ℕ) → IsOneLine w → l.IsDirective w → IsDirective (35 ∷ w)
directive_is [] o h = absurd cc
directive_is (b ∷ w) o h = (refl, o, h)

abbrev IsLineHere : Spelling → Type 0
IsLineHere s = IsDirectiveToken s.kind s.bytes

of_word : (w v : List ℕ) (b : Bool) → IsDirectiveToken (cond b k.Keyword k.Name) v
of_word w v true = tt
of_word w v false = tt

piece_lines : (first : Bool) (p : Piece) (r : List ℕ) → Fits first p → Longest p r → Each IsLineHere (spelling_of p)
piece_lines first (l.Directive w) r f m = (directive_is (bare w) (one_line w r m) (directive_bare w (f.1)), tt)
piece_lines first (l.Word w) r f m = (of_word w w (is_keyword w), tt)
piece_lines first (l.Number w) r f m = (tt, tt)
piece_lines first (l.Char x) r f m = (tt, tt)
piece_lines first (l.Text xs) r f m = (tt, tt)
piece_lines first (l.Sign x) r f m = (tt, tt)
piece_lines first _ r f m = tt

pub directives : (pieces : List Piece) (t : List ℕ) → Spells pieces t →
    Each (λ (x : Token). IsDirectiveToken x.kind (slice_range t x.start x.end)) (tokens_of pieces)
directives pieces t s = each_token IsLineHere piece_lines pieces t s

-- ---- by their classes

-- a token of the class of directives is an `#include` line
abbrev pub IsLine : Class → List ℕ → Type 0
IsLine class w = class ≡ c.Directive → IsDirective w

abbrev directive_class : Class → Bool
directive_class c.Directive = true
directive_class _ = false

mark_no_directive : (o : Option Mark) → directive_class (class_of_found o) ≡ false
mark_no_directive None = refl
mark_no_directive (Some m.Dot) = refl
mark_no_directive (Some _) = refl

line_there : (kind : TokenKind) (w : List ℕ) → IsDirectiveToken kind w → IsLine (class_of_bytes kind w) w
line_there k.Directive w h e = h
line_there k.Mark w h e = apart directive_class (class_of_found (mark_of w)) c.Directive (mark_no_directive (mark_of w)) refl e
line_there k.Keyword w h e = from_keyword w c.Directive refl e
line_there k.Name w h e = apart directive_class c.Name c.Directive refl refl e
line_there k.Number w h e = apart directive_class c.Number c.Directive refl refl e
line_there k.Char w h e = apart directive_class c.Character c.Directive refl refl e
line_there k.Text w h e = apart directive_class c.Text c.Directive refl refl e

class_lines : (t : List ℕ) (xs : List Token) → Each (λ (x : Token). IsDirectiveToken x.kind (slice_range t x.start x.end)) xs →
    Each (λ x. IsLine (class_of t x) (slice_range t x.start x.end)) xs
class_lines t [] h = tt
class_lines t (x ∷ xs) h = (line_there x.kind (slice_range t x.start x.end) (h.0), class_lines t xs (h.1))

pub lines : (pieces : List Piece) (t : List ℕ) → Spells pieces t → Along IsLine (word_of t (tokens_of pieces)) 0 (classes_of t (tokens_of pieces) ++ c.End ∷ [])
lines pieces t s = along IsLine (λ e. apart directive_class c.End c.Directive refl refl e) pieces t s (class_lines t (tokens_of pieces) (directives pieces t s))

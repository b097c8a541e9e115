-- The tokens of a text are words of their classes.
use Rattle.std.proofs.Common.{◌≡◌, ℕ, Bool, true, false, List, [], ◌∷◌, ◌++◌, Some, None, refl}
use Rattle.c_types.specs.Words.{is_word, is_keyword}
use Rattle.c_lexer.specs.declared.token.TokenKind.{TokenKind}
use Rattle.c_lexer.specs.declared.token.TokenKind.TheVariants as k
use Rattle.c_lexer.specs.Marks.{mark_text}
use Rattle.c_lexer.specs.Pieces.{Piece, spelled, bare, word_kind, tokens_of, Fits, Spells}
use Rattle.c_lexer.specs.Pieces as l
use Rattle.c_grammar.specs.declared.class.Class.TheVariants as c
use Rattle.c_grammar.specs.TokenClasses.{class_of_bytes, classes_of}
use Rattle.c_grammar.specs.Words.{word_of}
use Rattle.c_resolved_defs.specs.Within.{Each}
use Rattle.print_laws.specs.Reread.{Spelling, spelling_of}
use Rattle.c_source_laws.specs.Classed.{IsFound, IsClassed}
use Rattle.c_source_laws.proofs.Numbered.{each_token, Along, along}

abbrev IsClassedHere : Spelling → Type 0
IsClassedHere s = IsClassed (class_of_bytes s.kind s.bytes) s.bytes

classed : (k : TokenKind) (w : List ℕ) → IsFound k w → IsClassed (class_of_bytes k w) w
classed k w h = record { kind = Some k; there = h; classed = refl }

of_word : (w : List ℕ) → is_word w ≡ true → (b : Bool) → is_keyword w ≡ b → IsFound (word_kind w) w
of_word w h true e = rw e tt
of_word w h false e = rw e (h, e)

found : (first : Bool) (p : Piece) → Fits first p → Each IsClassedHere (spelling_of p)
found first (l.Word w) f = (classed (word_kind w) w (of_word w f (is_keyword w) refl), tt)
found first (l.Sign m) f = (classed k.Mark (mark_text m) (m, refl), tt)
found first (l.Number w) f = (classed k.Number w tt, tt)
found first (l.Char x) f = (classed k.Char (spelled (l.Char x) []) tt, tt)
found first (l.Text xs) f = (classed k.Text (spelled (l.Text xs) []) tt, tt)
found first (l.Directive w) f = (classed k.Directive (35 ∷ bare w) tt, tt)
found first _ f = tt

pub classes : (pieces : List Piece) (t : List ℕ) → Spells pieces t → Along IsClassed (word_of t (tokens_of pieces)) 0
    (classes_of t (tokens_of pieces) ++ c.End ∷ [])
classes pieces t s = along IsClassed (record { kind = None; there = tt; classed = refl }) pieces t s
    (each_token IsClassedHere (λ first p r f m. found first p f) pieces t s)

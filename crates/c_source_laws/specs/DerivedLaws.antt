-- The laws of this crate: the derivation of a text gives source trees as resolving reads them.
use Rattle.std.specs.Prelude.{◌≡◌, ◌≤◌, ℕ, List, [], ◌∷◌, ◌++◌, length, slice_range}
use Rattle.c_lexer.specs.declared.token.Token.{Token}
use Rattle.c_lexer.specs.Pieces.{Piece, Spells, tokens_of, comments_of}
use Rattle.c_grammar.specs.declared.class.Class.{Class}
use Rattle.c_grammar.specs.declared.class.Class.TheVariants as c
use Rattle.c_grammar.specs.declared.syntax.Syntax.{Syntax}
use Rattle.c_grammar.specs.TokenClasses.{classes_of}
use Rattle.c_grammar.specs.Derives.{Derives}
use Rattle.c_grammar.specs.Expressions.{Expression, FitsExpression, expression_tokens}
use Rattle.c_grammar.specs.ExpressionSyntax.{expression_end}
use Rattle.c_grammar.specs.Statements.{Items, FitsItems, items_tokens}
use Rattle.c_grammar.specs.StatementSyntax.{items_end}
use Rattle.c_grammar.specs.Words.{word_of}
use Rattle.c_grammar.specs.Parts.{file_of}
use Rattle.c_grammar.specs.Tops.{Top}
use Rattle.c_statements.specs.declared.anchors.Anchor.{Anchor}
use Rattle.c_comments.specs.Notes.{notes_of}
use Rattle.c_resolved_defs.specs.PrintableExpressions.{AreBytes}
use Rattle.c_resolved_defs.specs.Verbatims.{IsComment}
use Rattle.c_resolved_defs.specs.Within.{Each}
use Rattle.reread_parts_laws.specs.Keywords.{ItemsHaveKeywords}
use Rattle.reread_parts_laws.specs.WrittenExpressions.{expression_form}
use Rattle.reread_parts_laws.specs.WrittenStatements.{written_items}
use Rattle.reread_parts_laws.specs.WrittenFiles.{written_tops}
use Rattle.c_resolving_laws.specs.Read.{IsReadForm, AreReadItems}
use Rattle.c_source_laws.specs.Classed.{Stand}
use Rattle.c_source_laws.specs.Directives.{IsDirectiveToken}
use Rattle.c_source_laws.specs.Formed.{IsFormedTop, IsShallow}

-- of words that are bytes
abbrev pub OfBytes : ((ℕ → List ℕ) → Type 0) → Type 0
OfBytes P = (word : ℕ → List ℕ) → ((at : ℕ) → AreBytes (word at)) → P word

-- of the derivation of a text of bytes, whose tokens a list holds
abbrev pub OfDerivation : ((word : ℕ → List ℕ) (tokens : List Class) (x : Syntax) → Derives tokens x → Type 0) → Type 0
OfDerivation P =
    (pieces : List Piece) (t : List ℕ) → Spells pieces t → AreBytes t → length (tokens_of pieces) ≤ 4294967295 →
    let tokens = tokens_of pieces in (x : Syntax) (d : Derives (classes_of t tokens) x) → P (word_of t tokens) (classes_of t tokens) x d

pub record DerivedLaws : Type 0 where
  -- the tokens of a text stand by their numbers, as words of their classes
  pub words : (pieces : List Piece) (t : List ℕ) → Spells pieces t → length (tokens_of pieces) ≤ 4294967295 →
      Stand (word_of t (tokens_of pieces)) 0 (classes_of t (tokens_of pieces) ++ c.End ∷ [])
  -- what derives an expression there is read
  pub expressions : OfBytes (λ word.
      (at : ℕ) (e : Expression) (r : List Class) → FitsExpression e → Stand word at (expression_tokens e r) →
      IsReadForm word (expression_form at e) × Stand word (expression_end at e) r)
  -- and what derives the items of a list
  pub items : OfBytes (λ word.
      (at : ℕ) (xs : Items) (r : List Class) → FitsItems xs → Stand word at (items_tokens xs r)
      → AreReadItems word (written_items at xs) × ItemsHaveKeywords word at xs × Stand word (items_end at xs) r)
  -- what the syntax of a derived text writes
  pub writes : OfDerivation (λ word tokens x d. file_of word x ≡ written_tops word 0 d.file)
  -- a derived text is read, apart from its limits
  pub file : OfDerivation (λ word tokens x d. Each (IsFormedTop word) (file_of word x))
  -- and the lists of each function stand at most so deep in each other as its limit says
  pub shallow : OfDerivation (λ word tokens x d. Each IsShallow (file_of word x))
  -- at each place of a text stand comments
  pub comments : (pieces : List Piece) (t : List ℕ) → Spells pieces t → (xs : List Top) (a : Anchor) →
      Each IsComment (notes_of t (tokens_of pieces) (comments_of pieces) xs a)
  -- and its directives are `#include` lines
  pub directives : (pieces : List Piece) (t : List ℕ) → Spells pieces t →
      Each (λ (x : Token). IsDirectiveToken x.kind (slice_range t x.start x.end)) (tokens_of pieces)

-- The laws of this crate: the derivation of a text gives source trees as resolving reads them, within their limits.
use Rattle.std.specs.Prelude.{◌≤◌, ℕ, List, length}
use Rattle.c_lexer.specs.Pieces.{Piece, Spells, tokens_of, comments_of}
use Rattle.c_grammar.specs.declared.syntax.Syntax.{Syntax}
use Rattle.c_grammar.specs.TokenClasses.{classes_of}
use Rattle.c_grammar.specs.Derives.{Derives}
use Rattle.c_grammar.specs.Words.{word_of}
use Rattle.c_grammar.specs.Parts.{file_of}
use Rattle.c_comments.specs.Notes.{notes_of}
use Rattle.c_resolved_defs.specs.PrintableExpressions.{AreBytes}
use Rattle.c_resolving_laws.specs.Read.{IsRead}

pub record LimitLaws : Type 0 where
  -- a derived text of bytes, whose tokens a list holds, is read
  pub read : (pieces : List Piece) (t : List ℕ) → Spells pieces t → AreBytes t → length (tokens_of pieces) ≤ 4294967295 →
      let tokens = tokens_of pieces in let word = word_of t tokens in (x : Syntax) → Derives (classes_of t tokens) x
      → IsRead word (notes_of t tokens (comments_of pieces) (file_of word x)) (file_of word x)

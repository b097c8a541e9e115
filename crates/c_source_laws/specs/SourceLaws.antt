-- The laws of this crate: what derives the syntax of a text derives the file that the syntax writes, and the other way round.
use Rattle.std.specs.Prelude.{◌≡◌, ℕ, List}
use Rattle.c_lexer.specs.Pieces.{Piece, Spells, tokens_of}
use Rattle.c_grammar.specs.declared.class.Class.{Class}
use Rattle.c_grammar.specs.declared.syntax.Syntax.{Syntax}
use Rattle.c_grammar.specs.TokenClasses.{classes_of}
use Rattle.c_grammar.specs.Derives.{Derives}
use Rattle.c_grammar.specs.Derives as grammar
use Rattle.c_grammar.specs.Parts.{file_of}
use Rattle.c_grammar.specs.Tops.{Top}
use Rattle.c_grammar.specs.Words.{word_of}
use Rattle.c_reading_defs.specs.Derivations.{DeriveFile, IsUnexpected, IsTooMany}

-- a syntax that the tokens of a text derive, and that writes this file
pub record SyntaxOf (t : List ℕ) (pieces : List Piece) (file : List Top) : Type 0 where
  pub syntax_of : Syntax
  pub derives : Derives (classes_of t (tokens_of pieces)) syntax_of
  pub writes : file_of (word_of t (tokens_of pieces)) syntax_of ≡ file

pub record SourceLaws : Type 0 where
  -- a text that derives a syntax derives the file that it writes
  pub file : (t : List ℕ) (pieces : List Piece) → Spells pieces t → (x : Syntax) → Derives (classes_of t (tokens_of pieces)) x
      → DeriveFile (classes_of t (tokens_of pieces)) (file_of (word_of t (tokens_of pieces)) x)
  -- and one that derives a file derives a syntax that writes it
  pub syntax_of : (t : List ℕ) (pieces : List Piece) → Spells pieces t → (file : List Top) → DeriveFile (classes_of t (tokens_of pieces)) file →
      SyntaxOf t pieces file
  -- of tokens the same is unexpected, or over a limit, by derivations of the grammar
  pub unexpected : (tokens : List Class) (k : ℕ) → grammar.IsUnexpected tokens k → IsUnexpected tokens k
  pub unexpected_back : (tokens : List Class) (k : ℕ) → IsUnexpected tokens k → grammar.IsUnexpected tokens k
  pub too_many : (tokens : List Class) (k : ℕ) → grammar.IsTooMany tokens k → IsTooMany tokens k
  pub too_many_back : (tokens : List Class) (k : ℕ) → IsTooMany tokens k → grammar.IsTooMany tokens k

-- The laws of this crate.
use Rattle.std.proofs.Common.{ℕ, List}
use Rattle.c_lexer.specs.Pieces.{Piece, Spells, tokens_of}
use Rattle.c_grammar.specs.declared.syntax.Syntax.{Syntax}
use Rattle.c_grammar.specs.TokenClasses.{classes_of}
use Rattle.c_grammar.specs.Derives.{Derives}
use Rattle.c_grammar.specs.Parts.{file_of}
use Rattle.c_grammar.specs.Tops.{Top}
use Rattle.c_grammar.specs.Words.{word_of}
use Rattle.c_source_laws.proofs.Weights.{weights}
use Rattle.c_reading_defs.specs.Derivations.{DeriveFile}
use Rattle.c_source_laws.specs.SourceLaws.{SyntaxOf, SourceLaws}
use Rattle.c_source_laws.proofs.Named.{classes}
use Rattle.c_source_laws.proofs.Sources.{derives_file, syntax_given, unexpected_given, unexpected_back, too_many_given, too_many_back}

module _ (t : List ℕ) (pieces : List Piece) (s : Spells pieces t) where
  file : (x : Syntax) → Derives (classes_of t (tokens_of pieces)) x → DeriveFile (classes_of t (tokens_of pieces)) (file_of (word_of t (tokens_of pieces)) x)
  file = derives_file (word_of t (tokens_of pieces)) (classes_of t (tokens_of pieces)) (classes pieces t s) (weights pieces t s)

  syntax_of : (xs : List Top) → DeriveFile (classes_of t (tokens_of pieces)) xs → SyntaxOf t pieces xs
  syntax_of xs d =
      let h = syntax_given (word_of t (tokens_of pieces)) (classes_of t (tokens_of pieces)) (classes pieces t s) (weights pieces t s) xs d in
      record { syntax_of = h.syntax_of; derives = h.derives; writes = h.writes }

pub source_laws : SourceLaws
source_laws = record {
  file = file;
  syntax_of = syntax_of;
  unexpected = unexpected_given;
  unexpected_back = unexpected_back;
  too_many = too_many_given;
  too_many_back = too_many_back;
}

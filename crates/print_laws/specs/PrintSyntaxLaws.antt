-- The laws of this crate.
use Rattle.std.specs.Prelude.{◌≡◌, List, map, Ok}
use Rattle.c_lexer.specs.Pieces.{Piece, Spells, tokens_of, comments_of, scanned_of}
use Rattle.c_lexer.specs.Answers.{scanning}
use Rattle.c_grammar.specs.TokenClasses.{classes_of}
use Rattle.c_grammar.specs.Derives.{Derives}
use Rattle.c_tree.specs.declared.tree.Program.{Program}
use Rattle.c_tree.specs.Text.{pieces_of, text_of}
use Rattle.print_laws.specs.Reread.{reread_all, spellings, placed_at, read_at}
use Rattle.print_laws.specs.Notes.{notes_of}
use Rattle.print_laws.specs.FileDerivations.{syntax_of}
use Rattle.c_resolved_defs.specs.PrintablePrograms.{IsPrintable}

-- the lexer's pieces of the printed text of a program
abbrev pub printed_pieces : Program → List Piece
printed_pieces p = reread_all (pieces_of p)

-- what the lexer and the grammar make of the printed text of a program
pub record ReadsBack (p : Program) : Type 0 where
  -- it is those pieces, each the longest at its byte
  pub spells : Spells (printed_pieces p) (text_of p)
  -- so that reading it gives their tokens and comments
  pub scanned : scanning (text_of p) ≡ Ok (scanned_of (printed_pieces p))
  -- each token has the kind and the bytes that its piece spells
  pub tokens : map (read_at (text_of p)) (tokens_of (printed_pieces p)) ≡ spellings (printed_pieces p)
  -- the comments are those of the program, each with the tokens behind it
  pub notes : placed_at (text_of p) (tokens_of (printed_pieces p)) (comments_of (printed_pieces p)) ≡ notes_of p
  -- the tokens derive the syntax of the program, within the limits
  pub derives : Derives (classes_of (text_of p) (tokens_of (printed_pieces p))) (syntax_of p)

-- the printed text of a program that prints is read again
abbrev pub PrintedReadsBack : Type 0
PrintedReadsBack = (p : Program) → IsPrintable p → ReadsBack p

-- The law of this crate.
use Rattle.std.specs.Prelude.{◌≡◌, List, Ok}
use Rattle.c_lexer.specs.declared.token.Token.{Token}
use Rattle.c_lexer.specs.Pieces.{tokens_of, scanned_of}
use Rattle.c_lexer.specs.Answers.{scanning}
use Rattle.c_grammar.specs.declared.syntax.Syntax.{Syntax}
use Rattle.c_grammar.specs.TokenClasses.{classes_of}
use Rattle.c_grammar.specs.Derives.{Derives}
use Rattle.c_parser.specs.Answers.{parsed}
use Rattle.c_tree.specs.declared.tree.Program.{Program}
use Rattle.c_tree.specs.Text.{text_of}
use Rattle.print_laws.specs.FileDerivations.{syntax_of}
use Rattle.c_resolved_defs.specs.PrintablePrograms.{IsPrintable}
use Rattle.print_laws.specs.PrintSyntaxLaws.{printed_pieces}

-- the tokens of the printed text of a program
abbrev pub printed_tokens : Program → List Token
printed_tokens p = tokens_of (printed_pieces p)

-- what reading the printed text of a program gives
pub record Parses (p : Program) : Type 0 where
  -- its tokens and its comments
  pub scanned : scanning (text_of p) ≡ Ok (scanned_of (printed_pieces p))
  -- the syntax of the program
  pub parsed_so : parsed (text_of p) (printed_tokens p) ≡ Ok (syntax_of p)
  -- and no other
  pub alone : (x : Syntax) → Derives (classes_of (text_of p) (printed_tokens p)) x → x ≡ syntax_of p

abbrev pub PrintedTextParses : Type 0
PrintedTextParses = (p : Program) → IsPrintable p → Parses p

-- What reading a text gives: its tokens, then their syntax, then the program, or the first fault of these.
use Rattle.std.specs.Prelude.{ℕ, List, Result, Ok, Err}
use Rattle.c_types.specs.declared.refusal.Refusal.{Refusal}
use Rattle.c_lexer.specs.declared.token.Scanned.{Scanned}
use Rattle.c_lexer.specs.Answers.{scanning}
use Rattle.c_grammar.specs.declared.syntax.Syntax.{Syntax}
use Rattle.c_parser.specs.Answers.{parsed}
use Rattle.c_tree.specs.declared.tree.Program.{Program}
use Rattle.c_statements.specs.Functions.{FlatCounts}
use Rattle.c_scopes.specs.Resolving.{resolved}

abbrev pub of_syntax : FlatCounts → List ℕ → Scanned → Result Syntax Refusal → Result Program Refusal
of_syntax flat text s (Ok x) = resolved flat text s.tokens s.comments x
of_syntax flat text s (Err fault) = Err fault

abbrev pub of_tokens : FlatCounts → List ℕ → Result Scanned Refusal → Result Program Refusal
of_tokens flat text (Ok s) = of_syntax flat text s (parsed text s.tokens)
of_tokens flat text (Err fault) = Err fault

-- the program of a text, or its first fault, where jumps are counted so
abbrev pub reading : FlatCounts → List ℕ → Result Program Refusal
reading flat text = of_tokens flat text (scanning text)

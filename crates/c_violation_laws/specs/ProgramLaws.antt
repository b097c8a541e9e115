-- What `program_laws` states.
use Rattle.std.specs.Prelude.{◌≡◌, ℕ, List}
use Rattle.c_lexer.specs.declared.token.Token.{Token}
use Rattle.c_lexer.specs.declared.token.Span.{Span}
use Rattle.c_grammar.specs.Tops.{Top}
use Rattle.c_statements.specs.Functions.{FlatCounts}
use Rattle.c_scopes.specs.Files.{File}
use Rattle.c_scopes.specs.Resolving.{file_at, program_of, violation_of}
use Rattle.c_kinds.specs.Typing.{typed}
use Rattle.c_reading_defs.specs.Symbols.{Symbol}
use Rattle.c_reading_defs.specs.DerivedTops.{IsFile}
use Rattle.c_reading_defs.specs.Scopes.{Identifier}
use Rattle.c_reading_defs.specs.FileScopes.{IsFileScope}
use Rattle.c_reading_defs.specs.Programs.{program, file_written}

pub record ProgramLaws : Type 0 where
  -- a file that is derived has a scope
  pub scope : (file : File) (symbols : List Symbol) (xs : List Top) → IsFile 0 symbols xs → (scope : List Identifier) × IsFileScope typed file xs scope
  -- the program that the walk over a file makes is the one that the file writes
  pub same : (file : File) (symbols : List Symbol) (xs : List Top) → IsFile 0 symbols xs → (scope : List Identifier) →
      IsFileScope typed file xs scope → program_of file xs ≡ program typed file scope xs
  -- also where the functions with a body are listed in text order
  pub written : (flat : FlatCounts) (text : List ℕ) (tokens : List Token) (comments : List Span) (symbols : List Symbol) (xs : List Top) → IsFile 0 symbols xs
      → (scope : List Identifier) → IsFileScope typed (file_written flat text tokens comments xs) xs scope
      → program_of (file_at flat text tokens comments xs) xs ≡ program typed (file_written flat text tokens comments xs) scope xs
  pub violation : (flat : FlatCounts) (text : List ℕ) (tokens : List Token) (comments : List Span) (xs : List Top)
      → violation_of (file_at flat text tokens comments xs) xs ≡ violation_of (file_written flat text tokens comments xs) xs

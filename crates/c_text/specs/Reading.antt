-- What a text reads as: its program, or the refusal for its first fault (ISO/IEC 9899:2011, 5.1.1.2; docs/SUBSET.md).
use Rattle.std.specs.Prelude.{◌≡◌, ◌⊎◌, ℕ, List, Result}
use Rattle.c_types.specs.declared.refusal.Refusal.{Refusal}
use Rattle.c_lexer.specs.Pieces.{Piece, Spells, tokens_of, comments_of}
use Rattle.c_lexer.specs.Faults.{IsFirstFault}
use Rattle.c_grammar.specs.TokenClasses.{classes_of}
use Rattle.c_parser.specs.Reads.{IsRefusedAt}
use Rattle.c_grammar.specs.Tops.{Top}
use Rattle.c_kinds.specs.declared.typed.Fault.{Fault}
use Rattle.c_statements.specs.Functions.{FlatCounts}
use Rattle.c_scopes.specs.Reading.{reading as reading_with}
use Rattle.c_scopes.specs.Resolving.{refused}
use Rattle.c_reading_defs.specs.Derivations.{DeriveFile, IsUnexpected, IsTooMany}
use Rattle.c_reading_defs.specs.Violations.{IsLeast, IsFaultless}
use Rattle.c_reading_defs.specs.Typings.{Typing, IsTyping}
use Rattle.c_reading_defs.specs.Scopes.{Identifier}
use Rattle.c_reading_defs.specs.FileScopes.{IsFileScope}
use Rattle.c_reading_defs.specs.Files.{IsViolation}
use Rattle.c_reading_defs.specs.Programs.{program, file_written}
use Rattle.c_tree.specs.declared.tree.Program.{Program}
use Rattle.c_tree.specs.Trees.{trees_of}
use Rattle.c_resolved_laws.specs.Counts.{flat_counts}

-- the jumps and labels of the flat form of a body
abbrev pub counts_of : FlatCounts
counts_of body = flat_counts (trees_of body)

-- reading as a function: the tokens and comments are read, then the syntax that the tokens derive, then the program of
-- that syntax (`IsProgramOf` and `IsRefusedFor` say of which texts it answers what)
abbrev pub reading : List ℕ → Result Program Refusal
reading t = reading_with counts_of t

-- ---- why a text is refused

-- the first fault of its tokens: no file goes on so, or each that does is over a limit
pub record HasFaultyToken (t : List ℕ) (refusal : Refusal) : Type 0 where
  pub pieces : List Piece
  pub spells : Spells pieces t
  pub fault : IsRefusedAt IsUnexpected 10 t (tokens_of pieces) refusal ⊎ IsRefusedAt IsTooMany 11 t (tokens_of pieces) refusal

-- its tokens derive a file, and of the violations of that one this has the least place, and there the least reason
pub record HasViolation (t : List ℕ) (refusal : Refusal) : Type 0 where
  pub pieces : List Piece
  pub spells : Spells pieces t
  pub file : List Top
  pub derives : DeriveFile (classes_of t (tokens_of pieces)) file
  pub typing : Typing
  pub types : IsTyping typing
  pub scope : List Identifier
  pub scopes : IsFileScope typing (file_written counts_of t (tokens_of pieces) (comments_of pieces) file) file scope
  pub violation : Fault
  pub least : IsLeast (IsViolation typing (file_written counts_of t (tokens_of pieces) (comments_of pieces) file) scope file) violation
  pub place : refusal ≡ refused t (tokens_of pieces) violation

-- the first fault of a text: of its bytes, else of its tokens, else of the rules for names, kinds and statements; a text that is
-- too long (reason 1) is refused before it is read
abbrev pub IsRefusedFor : List ℕ → Refusal → Type 0
IsRefusedFor t refusal = IsFirstFault t refusal ⊎ (HasFaultyToken t refusal ⊎ HasViolation t refusal)

-- ---- what a text means

-- The text is spelled by good pieces, its tokens derive a file, each expression is what it means, the file has this scope, no
-- rule for names, kinds and statements is broken in it, and the program is the one that it writes, with the comments as Notes.
pub record IsProgramOf (t : List ℕ) (p : Program) : Type 0 where
  pub pieces : List Piece
  pub spells : Spells pieces t
  pub file : List Top
  pub derives : DeriveFile (classes_of t (tokens_of pieces)) file
  pub typing : Typing
  pub types : IsTyping typing
  pub scope : List Identifier
  pub scopes : IsFileScope typing (file_written counts_of t (tokens_of pieces) (comments_of pieces) file) file scope
  pub faultless : IsFaultless (IsViolation typing (file_written counts_of t (tokens_of pieces) (comments_of pieces) file) scope file)
  pub is : p ≡ program typing (file_written counts_of t (tokens_of pieces) (comments_of pieces) file) scope file

-- a text without fault
abbrev pub IsInSubset : List ℕ → Type 0
IsInSubset t = (p : Program) × IsProgramOf t p

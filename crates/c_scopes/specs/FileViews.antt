-- What the walk over a file reads and changes, as the definitions have it.
use Rattle.std.specs.Prelude.{ℕ, List}
use Rattle.c_kinds.specs.Scopes.{Env}
use Rattle.c_statements.specs.Functions.{FlatCounts}
use Rattle.c_statements.specs.NoteViews.{notes_of}
use Rattle.c_grammar.specs.Views.{words_of}
use Rattle.c_scopes.specs.declared.files.FileContext.{FileContext}
use Rattle.c_bodies.specs.declared.state.State as declared
use Rattle.c_scopes.specs.Files.{File, State}

abbrev pub file_of : FlatCounts → FileContext → File
file_of flat f = record { word = words_of f.outside.words; notes = notes_of f.outside.notes.now; bodies = f.bodies.now; flat = flat }

-- behind functions with a body
abbrev pub state_of : declared.State → List (List ℕ) → State
state_of s before = record { scopes = s.known.scopes; bodies = before }

-- the names there
abbrev pub env : FileContext → declared.State → Env
env f s = record { word = words_of f.outside.words; scopes = s.known.scopes }

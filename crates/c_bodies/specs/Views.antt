-- What the walk over a body reads and changes, as the definitions have it.
use Rattle.std.specs.Prelude.{drop}
use Rattle.c_bodies.specs.declared.state.FunctionContext.{FunctionContext}
use Rattle.c_bodies.specs.declared.state.State.{State}
use Rattle.c_bodies.specs.declared.state.Around as declared
use Rattle.c_kinds.specs.Scopes.{Env}
use Rattle.c_grammar.specs.Views.{words_of}
use Rattle.c_statements.specs.Context.{Context, Walk, Around, env_at}
use Rattle.c_statements.specs.NoteViews.{notes_of}

abbrev pub context_of : FunctionContext → Context
context_of f = record { word = words_of f.words; notes = notes_of f.notes.now; labels = f.labels.now; result = f.result }

unfoldable pub walk_of : State → Walk
walk_of s = record { scopes = s.known.scopes; slots = s.slots }

-- the names there
abbrev pub env : FunctionContext → State → Env
env f s = env_at (context_of f) (walk_of s)

abbrev pub around_of : declared.Around → Around
around_of a = record { loop = a.in_loop; switch = a.in_switch }

-- out of the nearest scope
abbrev pub left : Walk → Walk
left w = record { scopes = drop 1 w.scopes; slots = w.slots }

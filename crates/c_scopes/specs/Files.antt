-- What stands at file scope (ISO/IEC 9899:2011, 6.9): what it is, the names that it declares, and the violations.
use Rattle.std.specs.Prelude.{ℕ, negsuc, Bool, List, [], ◌∷◌, ◌++◌, map, Some}
use Rattle.c_tree.specs.declared.tree.Top.{Top}
use Rattle.c_tree.specs.declared.tree.Top.TheVariants as top
use Rattle.c_grammar.specs.Items.{Declaration}
use Rattle.c_grammar.specs.Tops.{Function, Form, Line, Enum, Globals, Defines, Unread}
use Rattle.c_grammar.specs.Tops as tops
use Rattle.c_kinds.specs.Scopes.{Scope, Env, Faults, known_scope}
use Rattle.c_statements.specs.declared.anchors.Anchor.{Anchor}
use Rattle.c_statements.specs.declared.anchors.Anchor.TheVariants.{Before, Last}
use Rattle.c_statements.specs.Declarations.{kinded}
use Rattle.c_statements.specs.Functions.{FlatCounts, function_of, function_faults}
use Rattle.c_scopes.specs.Enums.{behind_enum, enum_items, enum_faults}
use Rattle.c_scopes.specs.Globals.{behind_globals, globals, globals_faults}
use Rattle.c_scopes.specs.FunctionNames.{with_body, function_bound, function_name_faults}

-- What is known at file scope: the words of the tokens, the comments of each place, the functions that have a
-- body anywhere in the file, and how jumps are counted.
pub record File : Type 0 where
  pub word : ℕ → List ℕ
  pub notes : Anchor → List (List ℕ)
  pub bodies : List (List ℕ)
  pub flat : FlatCounts

-- the scope of the file and the one around it, and the functions that have a body so far
pub record State : Type 0 where
  pub scopes : List Scope
  pub bodies : List (List ℕ)

abbrev pub env_of : File → State → Env
env_of file s = record { word = file.word; scopes = s.scopes }

abbrev pub start : State
start = record { scopes = [] ∷ known_scope ∷ []; bodies = [] }

abbrev pub with_names : Env → State → State
with_names env s = record { scopes = env.scopes; bodies = s.bodies }

-- in its own body a function is declared already
abbrev pub function_declared : File → Function → State → State
function_declared file f s = record { scopes = (function_bound file.bodies f (env_of file s)).scopes; bodies = with_body file.word f s.bodies }

abbrev pub notes_tops : File → Anchor → List Top
notes_tops file anchor = map top.Note (file.notes anchor)

-- ---- what a declaration, an enum, a function or a directive is, and what stands behind it

abbrev pub declaration_tops : Bool → Declaration → Env → List Top
declaration_tops static d env = globals static (kinded env.word d) d.names env

abbrev pub behind_declaration : Declaration → Env → Env
behind_declaration d env = behind_globals (kinded env.word d) d.names env

abbrev pub declaration_faults : Declaration → Env → Faults → Faults
declaration_faults d env vs = globals_faults (kinded env.word d) d.names env vs

abbrev pub form_tops : File → ℕ → Form → State → List Top
form_tops file first Line s = top.Include (file.word first) ∷ []
form_tops file first (Enum es) s = top.Enum (enum_items es (Some (negsuc 0)) (env_of file s)) ∷ []
form_tops file first (Globals static d) s = declaration_tops static d (env_of file s)
form_tops file first (Defines f) s = top.Function (function_of file.word file.notes f (function_declared file f s).scopes) ∷ []
form_tops file first Unread s = []

abbrev pub behind_form : File → Form → State → State
behind_form file (Enum es) s = with_names (behind_enum es (Some (negsuc 0)) (env_of file s)) s
behind_form file (Globals static d) s = with_names (behind_declaration d (env_of file s)) s
behind_form file (Defines f) s = function_declared file f s
behind_form file _ s = s

abbrev pub form_faults : File → Form → State → Faults → Faults
form_faults file (Enum es) s vs = enum_faults es (Some (negsuc 0)) (env_of file s) vs
form_faults file (Globals static d) s vs = declaration_faults d (env_of file s) vs
form_faults file (Defines f) s vs =
    function_faults file.flat file.word file.notes f (function_declared file f s).scopes (function_name_faults file.bodies s.bodies f (env_of file s) vs)
form_faults file _ s vs = vs

abbrev pub top_tops : File → tops.Top → State → List Top
top_tops file (tops.From first after form) s = notes_tops file (Before first) ++ form_tops file first form s

abbrev pub behind_top : File → tops.Top → State → State
behind_top file (tops.From first after form) s = behind_form file form s

abbrev pub top_faults : File → tops.Top → State → Faults → Faults
top_faults file (tops.From first after form) s vs = form_faults file form s vs

-- ---- a file

abbrev pub tops_of : File → List tops.Top → State → List Top
tops_of file [] s = notes_tops file Last
tops_of file (x ∷ xs) s = top_tops file x s ++ tops_of file xs (behind_top file x s)

abbrev pub file_faults : File → List tops.Top → State → Faults → Faults
file_faults file [] s vs = vs
file_faults file (x ∷ xs) s vs = file_faults file xs (behind_top file x s) (top_faults file x s vs)

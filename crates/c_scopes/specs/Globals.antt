-- Variables of file scope (ISO/IEC 9899:2011, 6.9.2).
use Rattle.std.specs.Prelude.{Bool, false, List, [], ◌∷◌}
use Rattle.c_tree.specs.declared.tree.Top.{Top}
use Rattle.c_tree.specs.declared.tree.Top.TheVariants as top
use Rattle.c_tree.specs.declared.tree.GlobalVariable.{GlobalVariable}
use Rattle.c_grammar.specs.Items.{Declarator}
use Rattle.c_kinds.specs.declared.binding.Binding.TheVariants.{Global}
use Rattle.c_kinds.specs.Scopes.{Env, Faults, fault_if}
use Rattle.c_kinds.specs.Typing.{constant_faults}
use Rattle.c_statements.specs.declared.extents.Kinded.{Kinded}
use Rattle.c_statements.specs.Declarations.{shape_of, slot_of, is_bad_array, size_faults, initial, initial_faults, constant_at}
use Rattle.c_scopes.specs.FileNames.{bound_in, file_name_faults}

-- behind its declarator, before its initialiser
abbrev pub global_declared : Kinded → Declarator → Env → Env
global_declared k d env = bound_in d.name (Global (shape_of k d)) env

abbrev pub behind_globals : Kinded → List Declarator → Env → Env
behind_globals k [] env = env
behind_globals k (d ∷ ds) env = behind_globals k ds (global_declared k d env)

-- a variable, and whether it is `static`
abbrev pub global : Bool → Kinded → Declarator → Env → GlobalVariable
global static k d env = record { slot = slot_of env k d; init = initial (constant_at (global_declared k d env)) d.value; file_only = static }

abbrev pub globals : Bool → Kinded → List Declarator → Env → List Top
globals static k [] env = []
globals static k (d ∷ ds) env = top.Global (global static k d env) ∷ globals static k ds (global_declared k d env)

-- ---- violations

-- of its length and its name
abbrev pub slot_faults : Declarator → Env → Faults → Faults
slot_faults d env vs = file_name_faults d.name env (fault_if (is_bad_array false env d) d.name 35 (size_faults env d.size vs))

abbrev pub global_faults : Kinded → Declarator → Env → Faults → Faults
global_faults k d env vs = initial_faults (constant_faults (global_declared k d env)) d.value (slot_faults d env vs)

abbrev pub globals_faults : Kinded → List Declarator → Env → Faults → Faults
globals_faults k [] env vs = vs
globals_faults k (d ∷ ds) env vs = globals_faults k ds (global_declared k d env) (global_faults k d env vs)

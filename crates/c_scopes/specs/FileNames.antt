-- Names of file scope.
use Rattle.std.specs.Prelude.{ℕ, codes}
use Rattle.std.specs.Str.{bytes_eq}
use Rattle.c_types.specs.Words.{is_known}
use Rattle.c_kinds.specs.declared.binding.Binding.{Binding}
use Rattle.c_kinds.specs.Scopes.{Env, Faults, fault_if, bind, bind_fault}

-- the token's name is bound in the nearest scope, unless it has it
abbrev pub bound_in : ℕ → Binding → Env → Env
bound_in at b env = record { word = env.word; scopes = bind (env.word at) b env.scopes }

-- a name other than a function's is no known function and not `main`, and is declared once
abbrev pub file_name_faults : ℕ → Env → Faults → Faults
file_name_faults at env vs =
    bind_fault at (env.word at) env.scopes (fault_if (bytes_eq (env.word at) (codes "main")) at 36 (fault_if (is_known (env.word at)) at 21 vs))

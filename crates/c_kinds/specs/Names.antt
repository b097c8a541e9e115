-- Names in expressions: what they stand for, and their violations.
use Rattle.std.specs.Prelude.{ℕ, Bool, cond, ◌&&◌, List, Option, Some, None}
use Rattle.c_types.specs.declared.kinds.IntKind.TheVariants.{Int}
use Rattle.c_tree.specs.declared.tree.Home.TheVariants as home
use Rattle.c_tree.specs.declared.tree.Node as node
use Rattle.c_kinds.specs.declared.binding.Shape.{Shape}
use Rattle.c_kinds.specs.declared.binding.Binding.{Binding}
use Rattle.c_kinds.specs.declared.binding.Binding.TheVariants.{Constant, Global, Local, Function, Printf}
use Rattle.c_kinds.specs.declared.typed.Typed.{Typed}
use Rattle.c_kinds.specs.declared.typed.Typed.TheVariants.{Wrong}
use Rattle.c_kinds.specs.declared.typed.Variable.{Variable}
use Rattle.c_kinds.specs.Scopes.{Faults, fault, fault_if}
use Rattle.c_kinds.specs.Values.{of_kind, variable}

-- the variable that a name is bound to
abbrev pub variable_of : List ℕ → Option Binding → Option Variable
variable_of name (Some (Global shape)) = Some (record { home = home.Global name; shape = shape })
variable_of name (Some (Local slot shape)) = Some (record { home = home.Slot slot; shape = shape })
variable_of name _ = None

-- a name that is no called function
abbrev pub named : ℕ → List ℕ → Option Binding → Typed
named at name (Some (Constant value)) = of_kind Int (node.EnumName name value)
named at name (Some (Global shape)) = variable at (record { home = home.Global name; shape = shape })
named at name (Some (Local slot shape)) = variable at (record { home = home.Slot slot; shape = shape })
named at name _ = Wrong

-- ---- violations

-- a name that is not declared, and a function that is not called
abbrev pub name_fault : ℕ → Option Binding → Faults → Faults
name_fault at None vs = fault at 20 vs
name_fault at (Some (Function s)) vs = fault at 22 vs
name_fault at (Some Printf) vs = fault at 22 vs
name_fault at _ vs = vs

-- a variable in the place of a number, or of an array with an index
abbrev pub shape_fault : Bool → Bool → ℕ → Shape → Faults → Faults
shape_fault writes indexed at shape vs =
    cond shape.array
    (cond indexed (fault_if (writes && shape.constant) at 26 vs) (fault at 22 vs))
    (cond indexed (fault at 22 vs) (fault_if (writes && shape.constant) at 26 vs))

-- a name in the place of a target, which may be written to, or with an index
abbrev pub target_fault : Bool → Bool → ℕ → Option Binding → Faults → Faults
target_fault writes indexed at None vs = fault at 20 vs
target_fault writes indexed at (Some (Global shape)) vs = shape_fault writes indexed at shape vs
target_fault writes indexed at (Some (Local slot shape)) vs = shape_fault writes indexed at shape vs
target_fault writes indexed at (Some _) vs = fault at 22 vs

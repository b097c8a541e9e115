-- What names are bound to where a text is read, by what they stand for in a resolved program (ISO/IEC 9899:2011, 6.2.1).
use Rattle.std.specs.Prelude.{◌≡◌, ℕ, Bool, not, cond, true, List, [], ◌∷◌, map, Option, Some, None, option_map, is_some, slice_get}
use Rattle.c_tree.specs.declared.tree.Slot.{Slot}
use Rattle.c_tree.specs.declared.tree.Home.{Home}
use Rattle.c_tree.specs.declared.tree.Home.TheVariants as H
use Rattle.c_kinds.specs.declared.binding.Shape.{Shape}
use Rattle.c_kinds.specs.declared.binding.Want.{Want}
use Rattle.c_kinds.specs.declared.binding.Want.TheVariants as want
use Rattle.c_kinds.specs.declared.binding.Binding.{Binding}
use Rattle.c_kinds.specs.declared.binding.Binding.TheVariants as binding
use Rattle.c_kinds.specs.Scopes.{Scope, found, look_up}
use Rattle.c_resolved_defs.specs.Names.{Names, Callee, Plain, Printf, Unknown, the_global, callee}
use Rattle.c_resolved_defs.specs.Scopes.{Meaning, AConstant, AVariable, AFunction}
use Rattle.c_resolved_defs.specs.Scopes as resolved

abbrev pub shape_of : Slot → Shape
shape_of s = record { kind = s.kind; array = is_some s.cells; constant = s.constant }

-- what the argument for a parameter has to be, by whether the function has a body in the file
abbrev pub want_of : Bool → Slot → Want
want_of defined s = cond (is_some s.cells) (want.Array s.kind s.constant (not defined)) (want.Number s.kind s.constant)

abbrev pub function_of : Callee → Option Binding
function_of (Plain s) = Some (binding.Function (record { result = s.result; wants = map (want_of s.defined) s.parameters }))
function_of Printf = Some binding.Printf
function_of Unknown = None

abbrev pub variable_of : Names → Home → Option Binding
variable_of n (H.Slot k) = option_map (λ (s : Slot). binding.Local k (shape_of s)) (slice_get n.slots k)
variable_of n (H.Global m) = option_map (λ (s : Slot). binding.Global (shape_of s)) (the_global m n.tops)

abbrev pub binding_of : Names → List ℕ → Meaning → Option Binding
binding_of n m (AConstant z) = Some (binding.Constant z)
binding_of n m (AVariable h) = variable_of n h
binding_of n m AFunction = function_of (callee n m)

-- in one scope: a name is bound in both or in none
abbrev pub IsSame : Names → List ℕ → Option Meaning → Option Binding → Type 0
IsSame n m None o = o ≡ None
IsSame n m (Some b) o = (o ≡ binding_of n m b) × (is_some o ≡ true)

abbrev pub IsSameScope : Names → resolved.Scope → Scope → Type 0
IsSameScope n s t = (m : List ℕ) → IsSame n m (resolved.found m s) (found m t)

-- scope by scope
abbrev pub AreSameScopes : Names → List resolved.Scope → List Scope → Type 0
AreSameScopes n [] [] = Unit {0}
AreSameScopes n (s ∷ ss) (t ∷ ts) = IsSameScope n s t × AreSameScopes n ss ts
AreSameScopes n _ _ = ⊥

-- there is a scope
abbrev pub IsInScope : List resolved.Scope → Type 0
IsInScope [] = ⊥
IsInScope _ = Unit {0}

-- where a name of the program is bound, reading its text finds the same there
abbrev pub ScopesAgree : Names → List resolved.Scope → List Scope → Type 0
ScopesAgree n ss scopes = (m : List ℕ) (b : Meaning) → resolved.look_up ss m ≡ Some b → look_up scopes m ≡ binding_of n m b

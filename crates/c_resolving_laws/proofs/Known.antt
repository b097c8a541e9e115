-- What is bound at a place is what the tree knows by the name.
use Rattle.std.specs.Prelude.{ℕ, ◌≡◌, Bool, not, List, [], ◌∷◌, Some, None, is_some, IsSomeAnd, IfSome, IsSome, slice_get}
use Rattle.c_types.specs.declared.kinds.IntKind.TheVariants.{Int}
use Rattle.c_types.specs.Numbers.{IsInRange}
use Rattle.c_tree.specs.declared.tree.Slot.{Slot}
use Rattle.c_tree.specs.declared.tree.Home.TheVariants as H
use Rattle.c_kinds.specs.declared.binding.Shape.{Shape}
use Rattle.c_kinds.specs.declared.binding.Want.{Want}
use Rattle.c_kinds.specs.declared.binding.Want.TheVariants as want
use Rattle.c_kinds.specs.declared.binding.Signature.{Signature}
use Rattle.c_kinds.specs.declared.binding.Binding.{Binding}
use Rattle.c_kinds.specs.declared.binding.Binding.TheVariants.{Constant, Global, Local, Function, Printf}
use Rattle.c_kinds.specs.Scopes.{Env, look_up}
use Rattle.c_resolved_defs.specs.Names as Tree
use Rattle.c_resolved_defs.specs.Names.{Names, Callee, the_global, callee}
use Rattle.c_resolved_defs.specs.Scopes as Scopes
use Rattle.c_resolved_defs.specs.Scopes.{Scope, AConstant, AVariable, AFunction}

pub record HasShape (shape : Shape) (s : Slot) : Type 0 where
  pub kind : s.kind ≡ shape.kind
  pub array : is_some s.cells ≡ shape.array
  pub constant : s.constant ≡ shape.constant

-- a parameter is what is wanted
abbrev pub WantAgrees : Bool → Want → Slot → Type 0
WantAgrees defined (want.Number kind constant) s = (s.kind ≡ kind) × (s.constant ≡ constant) × (s.cells ≡ None)
WantAgrees defined (want.Array kind constant external) s = (s.kind ≡ kind) × (s.constant ≡ constant) × IsSome s.cells × (external ≡ not defined)
WantAgrees defined (want.Sized wide) s = ⊥

abbrev pub WantsAgree : Bool → List Want → List Slot → Type 0
WantsAgree defined [] [] = Unit {0}
WantsAgree defined (w ∷ ws) (s ∷ ss) = WantAgrees defined w s × WantsAgree defined ws ss
WantsAgree defined _ _ = ⊥

abbrev pub CalleeAgrees : Signature → Callee → Type 0
CalleeAgrees s (Tree.Plain c) = (c.result ≡ s.result) × WantsAgree c.defined s.wants c.parameters
CalleeAgrees s _ = ⊥

module _ (n : Names) (ss : List Scope) where
  -- what a name is bound to, among the names and scopes of the tree
  abbrev pub IsKnown : List ℕ → Binding → Type 0
  IsKnown m (Constant v) = IsInRange Int v × (Scopes.look_up ss m ≡ Some (AConstant v))
  IsKnown m (Global shape) = IsSomeAnd (the_global m n.tops) (HasShape shape) × (Scopes.look_up ss m ≡ Some (AVariable (H.Global m)))
  IsKnown m (Local k shape) = IsSomeAnd (slice_get n.slots k) (λ s. (s.name ≡ m) × HasShape shape s) × (Scopes.look_up ss m ≡ Some (AVariable (H.Slot k)))
  IsKnown m (Function s) = CalleeAgrees s (callee n m) × (Scopes.look_up ss m ≡ Some AFunction)
  IsKnown m Printf = (callee n m ≡ Tree.Printf) × (Scopes.look_up ss m ≡ Some AFunction)

  -- all that is bound at a place
  abbrev pub Knows : Env → Type 0
  Knows env = (m : List ℕ) → IfSome (look_up env.scopes m) (IsKnown m)

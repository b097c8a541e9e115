-- What a walk adds to the violations that were found before, in whatever order.
use Rattle.std.specs.Prelude.{◌≡◌, ◌⊎◌, [], ◌∷◌}
use Rattle.c_kinds.specs.declared.typed.Fault.{Fault}
use Rattle.c_kinds.specs.Scopes.{Faults}

abbrev pub IsAmong : Fault → Faults → Type 0
IsAmong v [] = ⊥
IsAmong v (w ∷ ws) = (v ≡ w) ⊎ IsAmong v ws

-- behind the walk there are those of P, and those that were there before
abbrev pub Finds : (Faults → Faults) → (Fault → Type 0) → Type 0
Finds walk P = (v : Fault) (vs : Faults) → (IsAmong v (walk vs) → P v ⊎ IsAmong v vs) × (P v ⊎ IsAmong v vs → IsAmong v (walk vs))

-- The scopes around a place as a log of what was entered and bound, the newest step first. A step's number is how many
-- steps there are up to it.
use Rattle.std.specs.Prelude.{ℕ, suc, ◌≡◌, ◌<◌, ◌≤◌, ◌==◌, List, [], ◌∷◌, length, Option, Some, None, cond}
use Rattle.std.specs.Str.{bytes_eq}
use Rattle.std.specs.Map.{count_at}
use Rattle.std.specs.BTreeMap.{BTreeMap, get}
use Rattle.c_types.specs.Words.{name_cmp}
use Rattle.c_kinds.specs.declared.binding.Binding.{Binding}
use Rattle.c_kinds.specs.declared.scopes.Step.{Step}
use Rattle.c_kinds.specs.declared.scopes.Step.TheVariants.{Enter, Bind}
use Rattle.c_kinds.specs.Scopes.{Scope, bind}

abbrev pub scopes_after : List Step → List Scope
scopes_after [] = []
scopes_after (Enter outer ∷ steps) = [] ∷ scopes_after steps
scopes_after (Bind name before b ∷ steps) = bind name b (scopes_after steps)

-- the number of the last step that entered a scope, or 0
abbrev pub last_entered : List Step → ℕ
last_entered [] = 0
last_entered (Enter outer ∷ steps) = suc (length steps)
last_entered (Bind name before b ∷ steps) = last_entered steps

-- the number of the last step that bound a name, or 0
abbrev pub last_bound : List ℕ → List Step → ℕ
last_bound q [] = 0
last_bound q (Enter outer ∷ steps) = last_bound q steps
last_bound q (Bind name before b ∷ steps) = cond (bytes_eq q name) (suc (length steps)) (last_bound q steps)

abbrev pub bound_in : Step → Option Binding
bound_in (Enter outer) = None
bound_in (Bind name before b) = Some b

-- what the step with the number bound
abbrev pub bound_by : ℕ → List Step → Option Binding
bound_by n [] = None
bound_by n (s ∷ steps) = cond (n == suc (length steps)) (bound_in s) (bound_by n steps)

-- each step has the number of the one that it takes the place of, and what it binds the nearest scope didn't have
abbrev pub IsLog : List Step → Type 0
IsLog [] = Unit {0}
IsLog (Enter outer ∷ steps) = (outer ≡ last_entered steps) × IsLog steps
IsLog (Bind name before b ∷ steps) = (before ≡ last_bound name steps) × (before ≤ last_entered steps) × (0 < last_entered steps) × IsLog steps

-- the table has the number of the last step that bound each name
abbrev pub HasLast : BTreeMap (List ℕ) ℕ → List Step → Type 0
HasLast table steps = (q : List ℕ) → count_at (get name_cmp table) q ≡ last_bound q steps

-- Slots that the items behind a place name otherwise than in exits, so that no loop round them allows a change of one.
use Rattle.std.specs.Prelude.{ℕ, suc, ◌<◌, ◌≡◌, ◌⊎◌, false, List, All, length, slice_get, Some}
use Rattle.c_tree.specs.declared.tree.Item.{Item}
use Rattle.c_tree.specs.Views.{tree_at}
use Rattle.tidy_slots.specs.Counts.{item_count}
use Rattle.tidy_loops.specs.Exits.{exits_of}
use Rattle.tidy_loops.specs.Slots.{count_in}
use Rattle.break_recovery.specs.declared.held.Held.{Held}
use Rattle.break_recovery.specs.declared.steady.Turned.{Turned}
use Rattle.break_recovery.specs.Steady.{is_turned}

-- the item at this place does, and isn't the last
abbrev pub IsHeldAt : ℕ → List Item → ℕ → Type 0
IsHeldAt g xs i = (suc i < length xs) × ((x : Item) → slice_get xs i ≡ Some x → exits_of g (tree_at x) < item_count g (tree_at x))

-- one behind the place does
abbrev pub IsHeldBehind : ℕ → List Item → ℕ → Type 0
IsHeldBehind g xs k = (i : ℕ) × (k < i) × IsHeldAt g xs i

-- each of these does that stands behind the place
abbrev pub AreHeld : List Held → List Item → ℕ → Type 0
AreHeld hs xs k = All (λ h. k < h.place → IsHeldAt h.slot xs h.place) hs

-- each slot is held that may be turned, if it counts
abbrev pub AllHeld : List ℕ → Turned → List Item → ℕ → Type 0
AllHeld counts t xs k = (g : ℕ) → (is_turned g t ≡ false) ⊎ ((count_in counts g ≡ 0) ⊎ IsHeldBehind g xs k)

-- two lists are the same behind the place
pub record SameBehind (k : ℕ) (xs ys : List Item) : Type 0 where
  pub long : length ys ≡ length xs
  pub same : (i : ℕ) → k < i → slice_get ys i ≡ slice_get xs i

-- How often the loop of a change names its slot, as the counts tell.
use Rattle.std.specs.Prelude.{ℕ, ◌-◌, ◌≤◌, ◌≡◌, Bool, true, false, Some}
use Rattle.c_tree.specs.Trees.{Tree, Forest, While, Do, For}
use Rattle.tidy_slots.specs.Counts.{list_count}
use Rattle.tidy_loops.specs.Slots.{last_reset, but_last}
use Rattle.tidy_loops.specs.Remaining.{loop_list}
use Rattle.break_recovery.specs.declared.here.Change.{Change}
use Rattle.break_recovery.specs.declared.here.Change.TheVariants as V

abbrev pub is_loop : Tree → Bool
is_loop (While t a) = true
is_loop (Do a t) = true
is_loop (For f t u a) = true
is_loop _ = false

-- by the counts, all mentions of the slot but its declaration, the `g = 0;` and the test of a change by `break`
abbrev pub exits_of : (ℕ → ℕ) → Change → ℕ
exits_of c (V.Break g) = c g - 3
exits_of c (V.Continue g) = c g - 2

-- what the change rewrites of a body names the slot so often at most
abbrev pub NamesAtMost : Change → ℕ → Forest → Type 0
NamesAtMost (V.Break g) n a = list_count g a ≤ n
NamesAtMost (V.Continue g) n a = (list_count g (but_last a) ≤ n) × (last_reset a ≡ Some g)

-- and the item is a loop with such a body
abbrev pub HoldsAtMost : Change → ℕ → Tree → Type 0
HoldsAtMost r n x = (is_loop x ≡ true) × NamesAtMost r n (loop_list x)

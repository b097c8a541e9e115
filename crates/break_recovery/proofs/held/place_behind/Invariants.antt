use Rattle.std.proofs.Common.{◌≤◌, ◌-◌, length}
use Rattle.break_recovery.proofs.held.place_behind.Given as goal

abbrev pub invariant-items : goal.invariant-items
invariant-items l = l.left ≤ length l.items - 1

abbrev pub decreases-items : goal.decreases-items
decreases-items l = l.left

use Rattle.std.proofs.Common.{◌<◌, IsNone, get_or, ℕ}
use Rattle.c_tree.specs.declared.tree.Slot.{Slot}
use Rattle.step_interp.proofs.entry.are_numbers.Given as goal

abbrev pub invariant-loop-at : goal.invariant-loop-at
invariant-loop-at l = (k : ℕ) (d : Slot) → k < l.at → IsNone (get_or l.slots k d).cells

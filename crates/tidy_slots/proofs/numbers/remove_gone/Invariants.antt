use Rattle.std.proofs.Common.{◌≤◌, length}
use Rattle.tidy_slots.proofs.NumberLaws.{LeftFrom}
use Rattle.tidy_slots.proofs.numbers.remove_gone.Given as goal

abbrev pub invariant-loop-i : goal.invariant-loop-i
invariant-loop-i l = (l.i ≤ length l.gone) × LeftFrom l.gone l.initial.slots l.i l.slots

abbrev pub decreases-loop-i : goal.decreases-loop-i
decreases-loop-i l = l.i

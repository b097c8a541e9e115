use Rattle.std.proofs.Common.{◌-◌, length}
use Rattle.break_recovery.proofs.Undeclared.{Passed}
use Rattle.break_recovery.proofs.boxes.undeclare.Given as goal

abbrev pub invariant-loop-i : goal.invariant-loop-i
invariant-loop-i l = Passed l.slot l.i l.initial.list l.list

abbrev pub decreases-loop-i : goal.decreases-loop-i
decreases-loop-i l = length l.list - l.i

use Rattle.std.proofs.Common.{◌≡◌, ◌≤◌, length, drop}
use Rattle.c_parse_step.proofs.want.todo.Given as goal

abbrev pub invariant-loop-i : goal.invariant-loop-i
invariant-loop-i l = record { bound : l.i ≤ length l.wants; left : l.left ≡ drop l.i l.wants }

abbrev pub decreases-loop-i : goal.decreases-loop-i
decreases-loop-i l = l.i

use Rattle.std.proofs.Common.{◌-◌, length}
use Rattle.move_programs.proofs.Tops.{AreMovedTo}
use Rattle.move_programs.proofs.all_tops.move_tops.Given as goal

abbrev pub invariant-loop-i : goal.invariant-loop-i
invariant-loop-i l = AreMovedTo l.i l.initial.tops l.tops l.moves

abbrev pub decreases-loop-i : goal.decreases-loop-i
decreases-loop-i l = length l.tops - l.i

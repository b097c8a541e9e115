use Rattle.std.proofs.Common.{length}
use Rattle.move_bodies.specs.Leaving.{IsLeaving}
use Rattle.move_bodies.proofs.leaving.leave.Given as goal

abbrev pub invariant-loop-alloc : goal.invariant-loop-alloc
invariant-loop-alloc l = IsLeaving l.label l.fn.start l.at l.initial.body l.body l.initial.moves l.moves

abbrev pub decreases-loop-alloc : goal.decreases-loop-alloc
decreases-loop-alloc l = length l.at.steps

use Rattle.std.proofs.Common.{length}
use Rattle.step_interp.proofs.spare.clear_values.Given as goal

abbrev pub invariant-loop : goal.invariant-loop
invariant-loop l = Unit {0}

abbrev pub decreases-loop : goal.decreases-loop
decreases-loop l = length l.values

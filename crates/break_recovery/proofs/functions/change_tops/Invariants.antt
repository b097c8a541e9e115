use Rattle.std.proofs.Common.{◌-◌, length}
use Rattle.break_recovery.proofs.Chains.{Done}
use Rattle.break_recovery.proofs.functions.change_tops.Given as goal

abbrev pub invariant-loop-i : goal.invariant-loop-i
invariant-loop-i l = Done l.i l.count l.initial.tops l.tops

abbrev pub decreases-loop-i : goal.decreases-loop-i
decreases-loop-i l = length l.tops - l.i

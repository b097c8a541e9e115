use Rattle.break_recovery.proofs.FrontLaws.{FrontFrom}
use Rattle.break_recovery.proofs.fronts.declares_first.Given as goal

abbrev pub invariant-items : goal.invariant-items
invariant-items l = FrontFrom l.list l.left l.none

abbrev pub decreases-items : goal.decreases-items
decreases-items l = l.left

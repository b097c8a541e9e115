use Rattle.std.proofs.Common.{sym, subst}
use Rattle.break_recovery.specs.Ways.{KeepsWay}
use Rattle.break_recovery.proofs.places.behind_change.Goals as goal

pub returns-in-Some-clause-way : goal.returns-in-Some-clause-way
returns-in-Some-clause-way c = subst (λ o. KeepsWay c.args.place o c.behind_removal.result.from) (sym c.in-Some.is) c.behind_removal.ensures.way

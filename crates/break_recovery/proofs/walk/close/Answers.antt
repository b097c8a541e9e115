use Rattle.break_recovery.proofs.Walks.{none_between}
use Rattle.break_recovery.proofs.walk.close.Goals as goal

pub returns-then-from-to : goal.returns-then-from-to
returns-then-from-to c = none_between c.args.from c.args.to c.args.list.now c.if-from-to.true

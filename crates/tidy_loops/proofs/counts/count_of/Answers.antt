use Rattle.tidy_loops.proofs.Kept.{none_counted}
use Rattle.tidy_loops.proofs.counts.count_of.Goals as goal

pub returns-in-None : goal.returns-in-None
returns-in-None c = none_counted c.args.counts.now c.args.slot c.in-None.ensures.value

use Rattle.step_memory.proofs.PageLemmas.{none_at}
use Rattle.step_memory.proofs.rooms.is_made.Goals as goal

pub returns-in-None-clause-unmade : goal.returns-in-None-clause-unmade
returns-in-None-clause-unmade c e = none_at c.args.pages.now c.args.page c.in-None.ensures.value

use Rattle.step_tasks.proofs.SearchLemmas.{no_lists}
use Rattle.step_tasks.proofs.search.has_lists.Goals as goal

pub returns-in_default : goal.returns-in_default
returns-in_default c h = no_lists c.args.item.now c.in_default.not-If c.in_default.not-While c.in_default.not-Do c.in_default.not-For
    c.in_default.not-Switch c.in_default.not-Block

use Rattle.std.proofs.Common.{◌∙◌}
use Rattle.tidy_loops.proofs.Read.{first_none, first_some}
use Rattle.tidy_loops.proofs.reading.first_reset.Goals as goal

pub returns-in-empty : goal.returns-in-empty
returns-in-empty c = first_none c.args.items.now c.in-empty.len_below

pub returns-in-len1-up : goal.returns-in-len1-up
returns-in-len1-up c = c.reset_slot.ensures ∙ first_some c.args.items.now c.item-item.result c.in-len1-up.len_at_least c.item-item.is

use Rattle.std.proofs.Common.{rules}
use Rattle.tidy_slots.proofs.TestLaws.{selects-Source, selects-Pick}
use Rattle.tidy_slots.proofs.mention_items.+selector_names.Goals as goal

pub returns-in-Source : goal.returns-in-Source
returns-in-Source t c = rw (selects-Source c.args.slot c.args.selector.now c.in-Source.e c.in-Source.is) (search rules)

pub returns-in-Pick : goal.returns-in-Pick
returns-in-Pick t c = rw (selects-Pick c.args.slot c.args.selector.now c.in-Pick.field-0 c.in-Pick.field-1 c.in-Pick.rest c.in-Pick.is) (search rules)

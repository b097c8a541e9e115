use Rattle.std.proofs.Common.{rules}
use Rattle.tidy_slots.proofs.TestLaws.{in-Source, in-On, in-Off, in-AndOff, in-OrOn}
use Rattle.tidy_slots.proofs.mention_items.+test_names.Goals as goal

pub returns-in-Source : goal.returns-in-Source
returns-in-Source t c = rw (in-Source c.args.slot c.args.test.now c.in-Source.e c.in-Source.is) (search rules)

pub returns-in-On : goal.returns-in-On
returns-in-On t c = rw (in-On c.args.slot c.args.test.now c.in-On.field-0 c.in-On.is) (search rules)

pub returns-in-Off : goal.returns-in-Off
returns-in-Off t c = rw (in-Off c.args.slot c.args.test.now c.in-Off.field-0 c.in-Off.is) (search rules)

pub returns-in-AndOff : goal.returns-in-AndOff
returns-in-AndOff t c = rw (in-AndOff c.args.slot c.args.test.now c.in-AndOff.field-0 c.in-AndOff.rest c.in-AndOff.is) (search rules)

pub returns-in-OrOn : goal.returns-in-OrOn
returns-in-OrOn t c = rw (in-OrOn c.args.slot c.args.test.now c.in-OrOn.field-0 c.in-OrOn.rest c.in-OrOn.is) (search rules)

use Rattle.label_offsets.proofs.HeldLaws.{held-is}
use Rattle.label_offsets.proofs.marks.holds.Goals as goal

pub returns : goal.returns
returns c = rw (held-is c.args.label c.args.item.now) c.has_inside.ensures

use Rattle.plain_form.proofs.MarkLaws.{marks_made}
use Rattle.plain_form.proofs.left.marks_of.Goals as goal

pub returns : goal.returns
returns c = cc (marks_made c.args.body.now c.args.count, c.mark_items.ensures, c.in_ok-marks.ensures, c.as_slice.ensures.value)

use Rattle.std.proofs.Common.{refl, ap, Err}
use Rattle.cmd_files.proofs.Completion.{too_long_text}
use Rattle.cmd_files.proofs.taken.take_text.Goals as goal

pub returns-in-Err-TooLong-clause-untaken : goal.returns-in-Err-TooLong-clause-untaken
returns-in-Err-TooLong-clause-untaken g c = record {
  which = refl;
  text = too_long_text _ c.args.from.now c.args.most (c.in-Err-TooLong.ensures.too_long (ap (λ e. Err e) c.in-Err-TooLong.field-0-is));
  line = c.tell_refusal.ensures;
}

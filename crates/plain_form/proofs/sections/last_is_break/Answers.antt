use Rattle.std.proofs.Common.{sym, ◌∙◌, arith}
use Rattle.plain_form.proofs.SectionLaws.{last_at}
use Rattle.plain_form.proofs.sections.last_is_break.Goals as goal

pub returns-then-end-gt0 : goal.returns-then-end-gt0
returns-then-end-gt0 c = c.is_break.ensures ∙ sym (last_at c.args.items.now _ c.index-items-end.result (omega (arith, c.if-end-gt0.true)) c.index-items-end.is)

use Rattle.std.proofs.Common.{not, is_some, sym, ap, ◌∙◌}
use Rattle.break_recovery.proofs.Likeness.{true_false}
use Rattle.break_recovery.proofs.Steadily.{else_empty, else_there}
use Rattle.break_recovery.proofs.steady.has_else.Goals as goal

pub returns-then-not-is_empty : goal.returns-then-not-is_empty
returns-then-not-is_empty c =
    c.is_some.ensures ∙ ap is_some c.off_slot.ensures ∙ sym (else_there c.args.test.now c.in-Source.e c.args.other.now c.in-Source.is
    (λ e. true_false (sym (c.is_empty.ensures.1 e) ∙ c.if-not-is_empty.true)))

pub returns-else-not-is_empty : goal.returns-else-not-is_empty
returns-else-not-is_empty c = ap not c.if-not-is_empty.false ∙ sym (else_empty c.args.test.now c.args.other.now (c.is_empty.ensures.0 c.if-not-is_empty.false))

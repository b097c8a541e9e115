use Rattle.std.proofs.Common.{arith, sym, ◌∙◌}
use Rattle.goto_lowering.proofs.Layouts.{lone, not_lone}
use Rattle.goto_lowering.proofs.renumbering.lone_goto.Goals as goal

pub returns-then-list-eq1 : goal.returns-then-list-eq1
returns-then-list-eq1 c = c.goto_label.ensures ∙ sym (lone c.args.list.now c.index-list-0.result (omega (arith, c.if-list-eq1.true)) c.index-list-0.is)

pub returns-else-list-eq1 : goal.returns-else-list-eq1
returns-else-list-eq1 c = sym (not_lone c.args.list.now (λ e. omega (arith, e, c.if-list-eq1.false)))

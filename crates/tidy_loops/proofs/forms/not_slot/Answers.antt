use Rattle.std.proofs.Common.{sym, ap, ◌∙◌}
use Rattle.c_tree.specs.ExpressionTrees.{expression_tree}
use Rattle.tidy_loops.specs.Views.{read_slot, unary_off}
use Rattle.tidy_loops.proofs.FormLaws.{expression_same}
use Rattle.tidy_loops.proofs.forms.not_slot.Goals as goal

pub returns-in-Not : goal.returns-in-Not
returns-in-Not c = c.read_slot.ensures ∙ ap read_slot (sym (expression_same c.args.a.now)) ∙
    sym (ap (λ o. unary_off o (expression_tree c.args.a.now)) c.in-Not.is)

use Rattle.std.proofs.Common.{sym, ap, ◌∙◌}
use Rattle.c_tree.specs.ExpressionTrees.{expression_tree}
use Rattle.tidy_loops.specs.Views.{off_slot}
use Rattle.tidy_loops.proofs.FormLaws.{expression_same}
use Rattle.tidy_loops.specs.Slots.{and_slot}
use Rattle.tidy_loops.proofs.reading.and_slot.Goals as goal

pub returns-in-AndThen : goal.returns-in-AndThen
returns-in-AndThen c = c.off_slot.ensures ∙ ap off_slot (sym (expression_same c.args.e.now)) ∙
    sym (ap (λ o. and_slot o (expression_tree c.args.e.now)) c.in-AndThen.is)

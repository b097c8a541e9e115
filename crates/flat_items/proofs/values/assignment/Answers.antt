use Rattle.std.proofs.Common.{ap, ◌∙◌}
use Rattle.c_tree.specs.ExpressionTrees.{expression_tree}
use Rattle.c_tree.specs.Trees as Plain
use Rattle.c_tree.proofs.Views.{at-Evaluate}
use Rattle.flat_items.proofs.Spelling.{typed-Assign}
use Rattle.flat_items.proofs.values.assignment.Goals as goal

pub returns : goal.returns
returns c = at-Evaluate _ ∙ ap Plain.Evaluate (typed-Assign c.args.kind c.args.slot c.in_ok-value.value (expression_tree c.args.e)
    (ap expression_tree c.in_ok-value.ensures))

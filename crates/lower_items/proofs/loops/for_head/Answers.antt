use Rattle.std.proofs.Common.{option_map, sym, ap, ◌∙◌}
use Rattle.std.proofs.lemmas.Result.{IfOk-weaker}
use Rattle.c_tree.specs.ExpressionTrees.{expression_tree}
use Rattle.c_tree.specs.TestTrees.{Source}
use Rattle.c_tree.proofs.ExpressionLaws.{test-Source}
use Rattle.lower_items.specs.Loops.{tested, for_start}
use Rattle.lower_items.proofs.loops.for_head.Goals as goal

pub returns-in-Some-clause-items : goal.returns-in-Some-clause-items
returns-in-Some-clause-items c =
    let k = c.args.here.construct in
    IfOk-weaker c.tested_head.result _ _ (λ it f. f ∙ ap (tested k) (test-Source _ ∙ ap (λ e. Source (expression_tree e)) c.into_inner.ensures) ∙
    sym (ap (λ z. for_start k (option_map expression_tree z)) c.in-Some.is)) c.tested_head.ensures.items

use Rattle.std.proofs.Common.{sym, ap, ◌∙◌}
use Rattle.std.proofs.lemmas.Result.{on_ok_weaker}
use Rattle.c_tree.specs.Trees.{trees_of, join}
use Rattle.c_tree.specs.Views.{tree_at}
use Rattle.c_tree.proofs.Views.{trees-push}
use Rattle.tidy_loops.specs.Exits.{way_given}
use Rattle.tidy_loops.proofs.ways.add.Goals as goal

pub returns-else-gives : goal.returns-else-gives
returns-else-gives c =
    on_ok_weaker c.push.result
    (λ h. ap trees_of h ∙ trees-push c.args.out.now c.args.item ∙ sym
    (ap (λ b. join (trees_of c.args.out.now) (way_given b (tree_at c.args.item))) c.if-gives.false))
    c.push.ensures.ok

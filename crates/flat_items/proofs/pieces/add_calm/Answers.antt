use Rattle.std.proofs.Common.{option_map, ap, ◌∙◌}
use Rattle.std.proofs.lemmas.Result.{on_ok_weaker}
use Rattle.c_tree.specs.Changed.{one}
use Rattle.c_tree.specs.ExpressionTrees.{expression_tree}
use Rattle.c_tree.specs.Trees as Plain
use Rattle.c_tree.specs.Trees.{Tree, Forest, Nil, Then, Sections, NoSection, trees_of, sections_of, expression_trees, join}
use Rattle.c_tree.proofs.TreeLaws.{trees-none}
use Rattle.c_tree.specs.Views.{tree_at}
use Rattle.c_tree.proofs.Views.{at-For}
use Rattle.flat_items.proofs.pieces.add_calm.Goals as goal

pub returns : goal.returns
returns c =
    let t = option_map expression_tree c.args.test.now in
    let u = option_map expression_tree c.args.third.now in
    on_ok_weaker c.add.result (λ h. h ∙ ap (λ z. join (trees_of c.args.out.now) (one z))
    (ap tree_at c.in_ok-made.ensures ∙ at-For c.new.result c.args.test.now c.args.third.now c.args.a ∙
    ap (λ z. Plain.For z t u (trees_of c.args.a)) (ap trees_of c.new.ensures ∙ trees-none)))
    c.add.ensures

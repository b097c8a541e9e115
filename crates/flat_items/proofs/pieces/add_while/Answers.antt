use Rattle.std.proofs.Common.{ap, ◌∙◌}
use Rattle.std.proofs.lemmas.Result.{on_ok_weaker}
use Rattle.c_tree.specs.Changed.{one}
use Rattle.c_tree.specs.TestTrees.{test_tree}
use Rattle.c_tree.specs.Trees as Plain
use Rattle.c_tree.specs.Trees.{Tree, Forest, Nil, Then, Sections, NoSection, trees_of, sections_of, expression_trees, join}
use Rattle.flat_laws.specs.Pieces.{mark_of}
use Rattle.c_tree.specs.Views.{tree_at}
use Rattle.c_tree.proofs.Views.{at-While}
use Rattle.flat_items.proofs.pieces.add_while.Goals as goal
use Rattle.flat_items.proofs.Joining.{one_more}
use Rattle.flat_items.specs.Plans.{aim_of}

pub returns : goal.returns
returns c =
    let x = Plain.While (test_tree c.args.test.now) (join (trees_of c.args.a) (mark_of (aim_of c.args.scope.continues))) in
    on_ok_weaker c.add_mark.result (λ h. h ∙ one_more (trees_of c.args.out.now) _ x (mark_of (aim_of c.args.scope.breaks))
    (c.in_ok-add.ensures ∙ ap (λ z. join (trees_of c.args.out.now) (one z))
    (ap tree_at c.in_ok-make_while.ensures ∙ at-While c.args.test.now c.in_ok-body.body ∙
    ap (Plain.While (test_tree c.args.test.now)) c.in_ok-body.ensures)))
    c.add_mark.ensures

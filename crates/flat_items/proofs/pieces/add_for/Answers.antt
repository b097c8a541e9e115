use Rattle.std.proofs.Common.{option_map, ap, ◌∙◌}
use Rattle.std.proofs.lemmas.Result.{on_ok_weaker}
use Rattle.c_tree.specs.Changed.{one}
use Rattle.c_tree.specs.ExpressionTrees.{expression_tree}
use Rattle.c_tree.specs.Trees.{trees_of, join}
use Rattle.flat_laws.specs.Pieces.{mark_of}
use Rattle.flat_items.proofs.pieces.add_for.Goals as goal
use Rattle.flat_items.proofs.Joining.{one_more, with_loop}
use Rattle.flat_items.specs.Plans.{aim_of}
use Rattle.flat_items.specs.Pieces.{for_loop}

pub returns : goal.returns
returns c =
    let t = option_map expression_tree c.args.test.now in
    let u = option_map expression_tree c.args.third.now in
    let x = for_loop c.args.jumpy t u (join (trees_of c.args.a) (mark_of (aim_of c.args.scope.continues))) in
    on_ok_weaker c.add_mark.result (λ h. h ∙ one_more (trees_of c.args.out.now) _ x (mark_of (aim_of c.args.scope.breaks))
    (c.in_ok-add_loop.ensures ∙ ap (λ z. join (trees_of c.args.out.now) (one (for_loop c.args.jumpy t u z))) c.in_ok-marked.ensures)
    ∙ ap (join (trees_of c.args.out.now)) (with_loop c.args.jumpy t u (trees_of c.args.a) (aim_of c.args.scope.breaks) (aim_of c.args.scope.continues)))
    c.add_mark.ensures

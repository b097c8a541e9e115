use Rattle.std.proofs.lemmas.Result.{on_ok_weaker}
use Rattle.c_tree.specs.Trees.{trees_of}
use Rattle.flat_laws.specs.Pieces.{mark_of}
use Rattle.flat_items.specs.Plans.{aim_of}
use Rattle.lower_items.proofs.Shapes.{closed_is}
use Rattle.lower_items.proofs.loops.close_loop.Goals as goal

pub returns : goal.returns
returns c =
    on_ok_weaker c.add_mark-2.result (λ f. closed_is (mark_of (aim_of c.args.next)) (trees_of c.args.closing) (mark_of (aim_of c.args.breaks))
    (trees_of c.args.out.now) _ _ _
    c.in_ok-add_mark.ensures c.in_ok-add_all.ensures f) c.add_mark-2.ensures

use Rattle.std.proofs.Common.{◌-◌, length, arith, sym, ap, ◌∙◌}
use Rattle.std.specs.Vec.Iter.{into_iter_items}
use Rattle.c_tree.specs.Changed.{one}
use Rattle.c_tree.specs.Trees.{trees_of, expression_trees, join}
use Rattle.flat_laws.specs.Pieces.{assigned_cells}
use Rattle.flat_items.proofs.Joining.{cells_step}
use Rattle.flat_items.proofs.pieces.add_cells.Goals as goal

pub loop-e-preserved : goal.loop-e-preserved
loop-e-preserved c =
    let k = c.args.kind in
    let m = c.args.cells - length c.args.given in
    let o = trees_of c.loop-e.out in
    let steps = c.in-Some.ensures.steps.0 in
    let n = ap length steps in
    let was = c.loop-e.invariant.count in
    record {
      count = omega (arith, n, was);
      items = cells_step k c.args.slot c.loop-e.at m c.in-Some.e (into_iter_items c.next.new.self) o (trees_of c.add.new.out) _
          (c.in_ok-add.ensures ∙ ap (λ z. join o (one z)) c.in_ok-cell_assignment.ensures)
          (sym (ap (λ z. join o (assigned_cells k c.args.slot c.loop-e.at (expression_trees z) m)) steps) ∙ c.loop-e.invariant.items);
    }

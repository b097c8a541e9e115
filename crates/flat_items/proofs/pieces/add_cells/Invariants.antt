use Rattle.std.proofs.Common.{◌≡◌, ◌+◌, ◌-◌, length}
use Rattle.std.specs.Vec.Iter.{into_iter_items}
use Rattle.c_tree.specs.Trees.{trees_of, expression_trees, join}
use Rattle.flat_laws.specs.Pieces.{assigned_cells}
use Rattle.flat_items.proofs.pieces.add_cells.Given as goal

abbrev pub invariant-loop-e : goal.invariant-loop-e
invariant-loop-e l = record {
  count : l.at + length (into_iter_items l.e-iterator) ≡ length l.fn.given;
  items : join (trees_of l.out) (assigned_cells l.kind l.slot l.at (expression_trees (into_iter_items l.e-iterator))
      (l.cells - length l.fn.given)) ≡ join (trees_of l.initial.out)
      (assigned_cells l.kind l.slot 0 (expression_trees l.fn.given) (l.cells - length l.fn.given));
}

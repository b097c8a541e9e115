use Rattle.std.proofs.Common.{◌≡◌, ◌-◌}
use Rattle.c_tree.specs.Trees.{trees_of, join}
use Rattle.std.proofs.Common.{[]}
use Rattle.flat_laws.specs.Pieces.{assigned_cells}
use Rattle.flat_items.proofs.pieces.add_cleared.Given as goal

abbrev pub invariant-loop-i : goal.invariant-loop-i
invariant-loop-i l = join (trees_of l.out) (assigned_cells l.kind l.slot l.i [] (l.cells - l.i)) ≡ join (trees_of l.initial.out)
    (assigned_cells l.kind l.slot l.from [] (l.cells - l.from))

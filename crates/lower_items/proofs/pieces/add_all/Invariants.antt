use Rattle.std.proofs.Common.{◌≡◌}
use Rattle.std.specs.Vec.Iter.{into_iter_items}
use Rattle.c_tree.specs.Trees.{trees_of, join}
use Rattle.lower_items.proofs.pieces.add_all.Given as goal

abbrev pub invariant-loop-item : goal.invariant-loop-item
invariant-loop-item l = join (trees_of l.out) (trees_of (into_iter_items l.item-iterator)) ≡ join (trees_of l.initial.out) (trees_of l.fn.items)

use Rattle.std.proofs.Common.{◌≡◌}
use Rattle.std.specs.Vec.Iter.{into_iter_items}
use Rattle.c_tree.specs.Trees.{trees_of, join}
use Rattle.flat_items.specs.Plans.{number_at}
use Rattle.goto_lowering.specs.Renumbered.{renumbered}
use Rattle.goto_lowering.proofs.bodies.add_renumbered.Given as goal

abbrev pub invariant-loop-item : goal.invariant-loop-item
invariant-loop-item l = join (trees_of l.out) (renumbered (number_at l.places) (trees_of (into_iter_items l.item-iterator))) ≡ join
    (trees_of l.initial.out) (renumbered (number_at l.places) (trees_of l.fn.items))

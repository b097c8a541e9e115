use Rattle.std.proofs.Common.{◌≡◌, drop}
use Rattle.c_tree.specs.Trees.{trees_of}
use Rattle.tidy_laws.specs.Changes.{are_low}
use Rattle.tidy_loops.proofs.levels.+low.Given as goal

abbrev pub invariant-items_are_low-loop-i : goal.invariant-items_are_low-loop-i
invariant-items_are_low-loop-i l = are_low l.slot l.level (trees_of (drop l.i l.items)) ≡ are_low l.slot l.level (trees_of l.items)

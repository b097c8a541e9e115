use Rattle.std.proofs.Common.{◌≡◌, drop}
use Rattle.c_tree.specs.Trees.{trees_of}
use Rattle.tidy_loops.specs.Exits.{has_check}
use Rattle.tidy_loops.proofs.ways.has_check.Given as goal

abbrev pub invariant-loop-i : goal.invariant-loop-i
invariant-loop-i l = has_check l.slot (trees_of l.items) ≡ has_check l.slot (trees_of (drop l.i l.items))

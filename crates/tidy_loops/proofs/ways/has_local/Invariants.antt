use Rattle.std.proofs.Common.{◌≡◌, drop}
use Rattle.c_tree.specs.Trees.{trees_of}
use Rattle.tidy_laws.specs.Changes.{has_local}
use Rattle.tidy_loops.proofs.ways.has_local.Given as goal

abbrev pub invariant-loop-i : goal.invariant-loop-i
invariant-loop-i l = has_local (trees_of l.items) ≡ has_local (trees_of (drop l.i l.items))

use Rattle.std.proofs.Common.{◌≡◌, ◌++◌, drop}
use Rattle.c_tree.specs.Trees.{trees_of}
use Rattle.tidy_loops.specs.Exits.{checks_told}
use Rattle.tidy_loops.proofs.ways.checks_among.Given as goal

abbrev pub invariant-loop-i : goal.invariant-loop-i
invariant-loop-i l = l.checks ++ checks_told l.slot (trees_of (drop l.i l.items)) ≡ checks_told l.slot (trees_of l.items)

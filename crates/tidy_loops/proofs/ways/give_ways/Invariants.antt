use Rattle.std.proofs.Common.{◌≡◌, length}
use Rattle.c_tree.specs.Trees.{trees_of}
use Rattle.tidy_loops.specs.Exits.{ways_given}
use Rattle.tidy_loops.proofs.ways.give_ways.Given as goal

abbrev pub invariant-loop-item : goal.invariant-loop-item
invariant-loop-item l = record {
  at : l.at ≡ length l.yielded;
  value : trees_of l.out ≡ ways_given l.told (trees_of l.yielded);
}

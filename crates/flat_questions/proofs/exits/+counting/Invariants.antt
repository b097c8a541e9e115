use Rattle.std.proofs.Common.{◌≡◌, ◌≤◌, ◌+◌, min, drop}
use Rattle.c_tree.specs.Exits.{breaks}
use Rattle.c_tree.specs.Trees.{trees_of}
use Rattle.flat_questions.proofs.exits.+counting.Given as goal

abbrev pub invariant-count_among-loop-i : goal.invariant-count_among-loop-i
invariant-count_among-loop-i l = record {
  stops : l.sum ≤ 2;
  same : min (l.sum + breaks (trees_of (drop l.i l.items))) 2 ≡ min (l.initial.sum + breaks (trees_of l.items)) 2;
}

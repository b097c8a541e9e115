use Rattle.std.proofs.Common.{drop}
use Rattle.c_tree.specs.Trees.{trees_of}
use Rattle.jump_meaning.specs.Code.{function_tree}
use Rattle.tidy_loops.proofs.Kept.{KeptUpTo}
use Rattle.tidy_loops.proofs.counts.keep_declared.Given as goal

abbrev pub invariant-loop-i : goal.invariant-loop-i
invariant-loop-i l = KeptUpTo (function_tree l.function) l.counts (trees_of l.items) l.initial.kept (trees_of (drop l.i l.items)) l.kept

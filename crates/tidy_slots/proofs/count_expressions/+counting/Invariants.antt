use Rattle.std.proofs.Common.{map, drop}
use Rattle.c_tree.specs.ExpressionTrees.{expression_tree, arguments}
use Rattle.tidy_slots.specs.Counts.{arguments_count}
use Rattle.tidy_slots.proofs.AddedLemmas.{AddsUpTo}
use Rattle.tidy_slots.proofs.count_expressions.+counting.Given as goal

abbrev pub invariant-count_arguments-loop-i : goal.invariant-count_arguments-loop-i
invariant-count_arguments-loop-i l =
    AddsUpTo l.initial.counts (λ g. arguments_count g (arguments (map expression_tree l.items))) l.counts
    (λ g. arguments_count g (arguments (map expression_tree (drop l.i l.items))))

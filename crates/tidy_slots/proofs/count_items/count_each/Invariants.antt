use Rattle.std.proofs.Common.{drop}
use Rattle.c_tree.specs.Trees.{expression_trees}
use Rattle.tidy_slots.specs.Counts.{all_count}
use Rattle.tidy_slots.proofs.AddedLemmas.{AddsUpTo}
use Rattle.tidy_slots.proofs.count_items.count_each.Given as goal

abbrev pub invariant-loop-i : goal.invariant-loop-i
invariant-loop-i l = AddsUpTo l.initial.counts (λ g. all_count g (expression_trees l.items)) l.counts (λ g. all_count g (expression_trees (drop l.i l.items)))

use Rattle.std.proofs.Common.{drop}
use Rattle.c_tree.specs.Trees.{trees_of, sections_of}
use Rattle.tidy_slots.specs.Counts.{list_count, sections_count}
use Rattle.tidy_slots.proofs.AddedLemmas.{AddsUpTo}
use Rattle.tidy_slots.proofs.count_items.+count.Given as goal

abbrev pub invariant-count_items-loop-i : goal.invariant-count_items-loop-i
invariant-count_items-loop-i l = AddsUpTo l.initial.counts (λ g. list_count g (trees_of l.items)) l.counts (λ g. list_count g (trees_of (drop l.i l.items)))

abbrev pub invariant-count_sections-loop-i : goal.invariant-count_sections-loop-i
invariant-count_sections-loop-i l = AddsUpTo l.initial.counts (λ g. sections_count g (sections_of l.sections)) l.counts
    (λ g. sections_count g (sections_of (drop l.i l.sections)))

use Rattle.std.proofs.Common.{◌≡◌, drop, ◌+◌}
use Rattle.c_tree.specs.Trees.{trees_of, sections_of}
use Rattle.c_tree.specs.Everywhere.{total, total_in}
use Rattle.c_resolved_laws.specs.Bounds.{entries, most_gotos, most_labels}
use Rattle.c_resolved_laws.specs.Counts.{section_ends}
use Rattle.flat_form.proofs.most.+most.Given as goal

-- both sums, over what is left
abbrev pub invariant-add_items-loop-i : goal.invariant-add_items-loop-i
invariant-add_items-loop-i l =
    (l.most.gotos + total most_gotos (trees_of (drop l.i l.items)) ≡ l.initial.most.gotos + total most_gotos (trees_of l.items))
    × (l.most.labels + total most_labels (trees_of (drop l.i l.items)) ≡ l.initial.most.labels + total most_labels (trees_of l.items))

abbrev pub invariant-add_sections-loop-i : goal.invariant-add_sections-loop-i
invariant-add_sections-loop-i l =
    let left = sections_of (drop l.i l.sections) in
    let all = sections_of l.sections in
    (l.most.gotos + (entries left + section_ends left + total_in most_gotos left) ≡ l.initial.most.gotos + (entries all + section_ends all + total_in
    most_gotos all))
    × (l.most.labels + (entries left + total_in most_labels left) ≡ l.initial.most.labels + (entries all + total_in most_labels all))

use Rattle.std.proofs.Common.{◌+◌, ◌*◌, ◌≤◌, length, drop, Some}
use Rattle.c_tree.specs.Trees.{tree_of, trees_of, sections_of}
use Rattle.tidy_slots.specs.Counts.{list_count, sections_count}
use Rattle.tidy_loops.specs.Exits.{checks_within}
use Rattle.tidy_loops.specs.Remaining.{exits_within, IsLeft}
use Rattle.tidy_loops.proofs.Sizes.{items, items_of, items_in}
use Rattle.tidy_loops.proofs.remaining.+remaining.Given as goal

abbrev pub decreases-behind_item : goal.decreases-behind_item
decreases-behind_item l = 8 * items_of (tree_of l.item.now)

abbrev pub decreases-behind_items : goal.decreases-behind_items
decreases-behind_items l = 8 * items (trees_of l.items.now) + 1

abbrev pub decreases-behind_list : goal.decreases-behind_list
decreases-behind_list l = 8 * items (trees_of l.list.now) + 2

abbrev pub decreases-behind_both : goal.decreases-behind_both
decreases-behind_both l = 8 * (items (trees_of l.a.now) + items (trees_of l.b.now)) + 3

abbrev pub decreases-behind_sections : goal.decreases-behind_sections
decreases-behind_sections l = 8 * items_in (sections_of l.sections.now) + 3

abbrev pub invariant-behind_items-items : goal.invariant-behind_items-items
invariant-behind_items-items l = (l.at ≤ length l.items) ×
    IsLeft l.left (exits_within l.tail l.slot (trees_of (drop l.at l.items))) (list_count l.slot (trees_of (drop l.at l.items))) (Some l.now)

abbrev pub decreases-behind_items-items : goal.decreases-behind_items-items
decreases-behind_items-items l = l.at

abbrev pub invariant-behind_sections-sections : goal.invariant-behind_sections-sections
invariant-behind_sections-sections l = (l.at ≤ length l.sections) ×
    IsLeft l.left (checks_within l.slot (sections_of (drop l.at l.sections))) (sections_count l.slot (sections_of (drop l.at l.sections))) (Some l.now)

abbrev pub decreases-behind_sections-sections : goal.decreases-behind_sections-sections
decreases-behind_sections-sections l = l.at

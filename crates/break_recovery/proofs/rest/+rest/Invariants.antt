use Rattle.std.proofs.Common.{◌+◌, ◌*◌}
use Rattle.c_tree.specs.Paths.{list_of}
use Rattle.c_tree.specs.Trees.{tree_of, trees_of, sections_of}
use Rattle.tidy_loops.proofs.Sizes.{items, items_of, items_in}
use Rattle.break_recovery.proofs.rest.+rest.Given as goal

abbrev pub decreases-change_on_in : goal.decreases-change_on_in
decreases-change_on_in l = 8 * items_of (tree_of l.item.now)

abbrev pub decreases-change_on_at : goal.decreases-change_on_at
decreases-change_on_at l = 8 * items (trees_of l.list.now) + 1

abbrev pub decreases-change_on : goal.decreases-change_on
decreases-change_on l = 8 * items (trees_of l.list.now) + 2

abbrev pub decreases-change_on_section : goal.decreases-change_on_section
decreases-change_on_section l = 8 * items (trees_of (list_of l.section.now)) + 3

abbrev pub decreases-change_on_either : goal.decreases-change_on_either
decreases-change_on_either l = 8 * (items (trees_of l.first.now) + items (trees_of l.second.now)) + 4

abbrev pub decreases-change_on_sections : goal.decreases-change_on_sections
decreases-change_on_sections l = 8 * items_in (sections_of l.sections.now) + 4

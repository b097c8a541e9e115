use Rattle.std.proofs.Common.{◌≡◌, suc, ◌+◌, ◌-◌, ◌*◌, length, drop, reverse}
use Rattle.c_tree.specs.Paths.{list_of}
use Rattle.c_tree.specs.Trees.{tree_of, trees_of, sections_of}
use Rattle.jump_meaning.specs.Code.{FunctionTree}
use Rattle.tidy_loops.specs.Slots.{Tells}
use Rattle.tidy_loops.proofs.Sizes.{items, items_of, items_in}
use Rattle.break_recovery.specs.Places.{AreQuiet}
use Rattle.break_recovery.specs.Ways.{AreQuietSections, list_there, IsWay, IsWayAt}
use Rattle.break_recovery.proofs.search.+search.Given as goal

abbrev pub decreases-change_item : goal.decreases-change_item
decreases-change_item l = 8 * items_of (tree_of l.item.now)

abbrev pub decreases-change_within : goal.decreases-change_within
decreases-change_within l = 8 * items (trees_of l.list.now) + 1

abbrev pub decreases-change_asked : goal.decreases-change_asked
decreases-change_asked l = 8 * items (trees_of l.list.now) + 2

abbrev pub decreases-change_at : goal.decreases-change_at
decreases-change_at l = 8 * items (trees_of l.list.now) + 3

abbrev pub decreases-change_list : goal.decreases-change_list
decreases-change_list l = 8 * items (trees_of l.list.now) + 4

abbrev pub decreases-change_either : goal.decreases-change_either
decreases-change_either l = 8 * (items (trees_of l.first.now) + items (trees_of l.second.now)) + 6

abbrev pub decreases-change_second : goal.decreases-change_second
decreases-change_second l = 8 * items (trees_of l.second.now) + 5

abbrev pub decreases-change_section : goal.decreases-change_section
decreases-change_section l = 8 * items (trees_of (list_of l.section.now)) + 5

abbrev pub decreases-change_sections : goal.decreases-change_sections
decreases-change_sections l = 8 * items_in (sections_of l.sections.now) + 6

abbrev pub invariant-change_list-loop-i : goal.invariant-change_list-loop-i
invariant-change_list-loop-i l =
    (l.list ≡ l.initial.list)
    × ((f : FunctionTree) → Tells l.counts f
    → AreQuiet f (suc l.level) l.initial.i (trees_of l.initial.list) ×
    IsWayAt l.initial.sure f (suc l.level) (reverse l.initial.way) (trees_of (drop l.initial.i l.initial.list))
    → AreQuiet f (suc l.level) l.i (trees_of l.initial.list) × IsWayAt l.sure f (suc l.level) (reverse l.way) (trees_of (drop l.i l.initial.list)))

abbrev pub decreases-change_list-loop-i : goal.decreases-change_list-loop-i
decreases-change_list-loop-i l = length l.list - l.i

abbrev pub invariant-change_sections-loop-i : goal.invariant-change_sections-loop-i
invariant-change_sections-loop-i l = (l.sections ≡ l.initial.sections) × ((f : FunctionTree) → Tells l.counts f
    → AreQuietSections f l.level l.initial.i (sections_of l.initial.sections) ×
    IsWay l.initial.sure f l.level (reverse l.initial.way) (list_there l.initial.i (sections_of l.initial.sections))
    → AreQuietSections f l.level l.i (sections_of l.initial.sections) ×
    IsWay l.sure f l.level (reverse l.way) (list_there l.i (sections_of l.initial.sections)))

abbrev pub decreases-change_sections-loop-i : goal.decreases-change_sections-loop-i
decreases-change_sections-loop-i l = length l.sections - l.i

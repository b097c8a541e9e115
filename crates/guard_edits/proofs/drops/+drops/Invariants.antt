use Rattle.std.proofs.Common.{◌+◌, ◌-◌, ◌*◌, length}
use Rattle.c_tree.specs.Paths.{list_of}
use Rattle.c_tree.specs.Trees.{tree_of, trees_of, sections_of}
use Rattle.guard_edits.proofs.GuardGone.{items, items_of, items_in, IsDroppedTo, AreDroppedTo}
use Rattle.guard_edits.proofs.drops.+drops.Given as goal

abbrev pub decreases-drop_inside : goal.decreases-drop_inside
decreases-drop_inside l = 4 * items_of (tree_of l.item.now)

abbrev pub decreases-drop_in : goal.decreases-drop_in
decreases-drop_in l = 4 * items (trees_of l.list.now) + 1

abbrev pub decreases-drop_section : goal.decreases-drop_section
decreases-drop_section l = 4 * items (trees_of (list_of l.section.now)) + 2

abbrev pub decreases-drop_sections : goal.decreases-drop_sections
decreases-drop_sections l = 4 * items_in (sections_of l.sections.now) + 3

abbrev pub invariant-drop_in-loop-i : goal.invariant-drop_in-loop-i
invariant-drop_in-loop-i l = IsDroppedTo l.label l.i l.initial.list l.list

abbrev pub decreases-drop_in-loop-i : goal.decreases-drop_in-loop-i
decreases-drop_in-loop-i l = length l.list - l.i

abbrev pub invariant-drop_sections-loop-k : goal.invariant-drop_sections-loop-k
invariant-drop_sections-loop-k l = AreDroppedTo l.label l.k l.initial.sections l.sections

abbrev pub decreases-drop_sections-loop-k : goal.decreases-drop_sections-loop-k
decreases-drop_sections-loop-k l = length l.sections - l.k

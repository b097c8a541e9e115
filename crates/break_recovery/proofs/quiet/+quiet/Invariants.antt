use Rattle.std.proofs.Common.{◌+◌, ◌*◌}
use Rattle.c_tree.specs.Trees.{tree_of, trees_of, sections_of}
use Rattle.jump_meaning.specs.Code.{FunctionTree}
use Rattle.tidy_loops.specs.Slots.{Tells}
use Rattle.break_recovery.specs.Places.{AreQuiet}
use Rattle.break_recovery.specs.Ways.{AreQuietSections}
use Rattle.tidy_loops.proofs.Sizes.{items, items_of, items_in}
use Rattle.break_recovery.proofs.quiet.+quiet.Given as goal

abbrev pub decreases-item_is_quiet : goal.decreases-item_is_quiet
decreases-item_is_quiet l = 8 * items_of (tree_of l.item.now)

abbrev pub decreases-items_are_quiet : goal.decreases-items_are_quiet
decreases-items_are_quiet l = 8 * items (trees_of l.items.now) + 1

abbrev pub decreases-is_quiet : goal.decreases-is_quiet
decreases-is_quiet l = 8 * items (trees_of l.list.now) + 2

abbrev pub decreases-sections_are_quiet : goal.decreases-sections_are_quiet
decreases-sections_are_quiet l = 8 * items_in (sections_of l.sections.now) + 3

abbrev pub invariant-items_are_quiet-loop-i : goal.invariant-items_are_quiet-loop-i
invariant-items_are_quiet-loop-i l = (f : FunctionTree) → Tells l.counts f → AreQuiet f l.level l.i (trees_of l.items)

abbrev pub invariant-sections_are_quiet-loop-i : goal.invariant-sections_are_quiet-loop-i
invariant-sections_are_quiet-loop-i l = (f : FunctionTree) → Tells l.counts f → AreQuietSections f l.level l.i (sections_of l.sections)

use Rattle.std.proofs.Common.{◌≤◌, drop}
use Rattle.c_tree.specs.Trees.{trees_of, sections_of}
use Rattle.c_resolved_defs.specs.PrintableStatements.{depth, depth_in}
use Rattle.print_limits.proofs.Measures.{Same}
use Rattle.print_limits.proofs.items.+nesting.Given as goal

abbrev pub invariant-are_nested-loop-i : goal.invariant-are_nested-loop-i
invariant-are_nested-loop-i l = Same (depth (trees_of l.items) ≤ l.room) (depth (trees_of (drop l.i l.items)) ≤ l.room)

abbrev pub invariant-sections_fit-loop-i : goal.invariant-sections_fit-loop-i
invariant-sections_fit-loop-i l = Same (depth_in (sections_of l.sections) ≤ l.room) (depth_in (sections_of (drop l.i l.sections)) ≤ l.room)

use Rattle.std.proofs.Common.{◌≤◌, drop}
use Rattle.c_tree.specs.Trees.{trees_of, sections_of}
use Rattle.c_resolved_defs.specs.Limits.{most_counted, most_counted_in}
use Rattle.c_resolved_defs.specs.PrintableStatements.{most}
use Rattle.print_limits.proofs.Measures.{Same}
use Rattle.print_limits.proofs.counted.+measuring.Given as goal

abbrev pub invariant-are_short_items-loop-i : goal.invariant-are_short_items-loop-i
invariant-are_short_items-loop-i l = Same (most_counted (trees_of l.items) ≤ most) (most_counted (trees_of (drop l.i l.items)) ≤ most)

abbrev pub invariant-are_short_sections-loop-i : goal.invariant-are_short_sections-loop-i
invariant-are_short_sections-loop-i l = Same (most_counted_in (sections_of l.sections) ≤ most) (most_counted_in (sections_of (drop l.i l.sections)) ≤ most)

use Rattle.std.proofs.Common.{◌≡◌, drop, ◌+◌}
use Rattle.c_tree.specs.Trees.{trees_of, sections_of}
use Rattle.c_tree.specs.Everywhere.{total, total_in}
use Rattle.c_resolved_laws.specs.Counts.{goto_of}
use Rattle.flat_form.proofs.counting.+counting.Given as goal

abbrev pub invariant-add_items-loop-i : goal.invariant-add_items-loop-i
invariant-add_items-loop-i l = l.count + total goto_of (trees_of (drop l.i l.items)) ≡ l.initial.count + total goto_of (trees_of l.items)

abbrev pub invariant-add_sections-loop-i : goal.invariant-add_sections-loop-i
invariant-add_sections-loop-i l = l.count + total_in goto_of (sections_of (drop l.i l.sections)) ≡ l.initial.count + total_in goto_of (sections_of l.sections)

use Rattle.std.proofs.Common.{◌≡◌, drop}
use Rattle.c_copies.specs.Names.{with_names, items_names, sections_names}
use Rattle.c_copies.proofs.program_names.+add_items.Given as goal

abbrev pub invariant-add_items-loop-i : goal.invariant-add_items-loop-i
invariant-add_items-loop-i l = with_names l.set (items_names (drop l.i l.items)) ≡ with_names l.initial.set (items_names l.items)

abbrev pub invariant-add_sections-loop-i : goal.invariant-add_sections-loop-i
invariant-add_sections-loop-i l = with_names l.set (sections_names (drop l.i l.sections)) ≡ with_names l.initial.set (sections_names l.sections)

use Rattle.std.proofs.Common.{◌≡◌, drop, ◌++◌}
use Rattle.c_tree.specs.Trees.{trees_of, sections_of}
use Rattle.flat_laws.specs.FlatForm.{marks, marks_among}
use Rattle.flat_form.proofs.flat_bodies_labels.+marking.Given as goal

abbrev pub invariant-add_items-loop-i : goal.invariant-add_items-loop-i
invariant-add_items-loop-i l = l.out ++ marks (trees_of (drop l.i l.items)) ≡ l.initial.out ++ marks (trees_of l.items)

abbrev pub invariant-add_sections-loop-i : goal.invariant-add_sections-loop-i
invariant-add_sections-loop-i l = l.out ++ marks_among (sections_of (drop l.i l.sections)) ≡ l.initial.out ++ marks_among (sections_of l.sections)

use Rattle.std.proofs.Common.{◌≡◌, drop}
use Rattle.plain_form.specs.Marks.{items_marked, sections_marked}
use Rattle.plain_form.proofs.left.+mark_items.Given as goal

abbrev pub invariant-mark_items-loop-i : goal.invariant-mark_items-loop-i
invariant-mark_items-loop-i l = items_marked (drop l.i l.items) l.marks ≡ items_marked l.items l.initial.marks

abbrev pub invariant-mark_sections-loop-i : goal.invariant-mark_sections-loop-i
invariant-mark_sections-loop-i l = sections_marked (drop l.i l.sections) l.marks ≡ sections_marked l.sections l.initial.marks

use Rattle.std.proofs.Common.{◌≡◌, drop, ◌+◌}
use Rattle.c_tree.specs.Trees.{trees_of, sections_of}
use Rattle.flat_questions.specs.Reading.{is_flagged}
use Rattle.c_resolved_laws.specs.Counts.{summed, summed_in}
use Rattle.flat_form.specs.Given.{given}
use Rattle.flat_form.proofs.made.+making.Given as goal

abbrev pub invariant-add_items-loop-i : goal.invariant-add_items-loop-i
invariant-add_items-loop-i l =
    l.count + summed (given l.what (is_flagged l.named)) (is_flagged l.named) l.in_jumpy (trees_of (drop l.i l.items))
    ≡ l.initial.count + summed (given l.what (is_flagged l.named)) (is_flagged l.named) l.in_jumpy (trees_of l.items)

abbrev pub invariant-add_sections-loop-i : goal.invariant-add_sections-loop-i
invariant-add_sections-loop-i l =
    l.count + summed_in (given l.what (is_flagged l.named)) (is_flagged l.named) l.in_jumpy (sections_of (drop l.i l.sections))
    ≡ l.initial.count + summed_in (given l.what (is_flagged l.named)) (is_flagged l.named) l.in_jumpy (sections_of l.sections)

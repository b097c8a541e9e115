use Rattle.c_tree.specs.Views.{tree_at}
use Rattle.flat_laws.specs.Relabelled.{relabelled_item, relabelled_among}
use Rattle.flat_items.specs.Plans.{number_at}
use Rattle.flat_form.proofs.Renumbered.{DoneTo, alone}
use Rattle.flat_form.proofs.renumbering.+renumbering.Given as goal

abbrev pub invariant-renumber_items-loop-i : goal.invariant-renumber_items-loop-i
invariant-renumber_items-loop-i l = goal.unvisited-renumber_items-loop-i l × DoneTo tree_at (relabelled_item (number_at l.places)) l.i l.initial.items l.items

abbrev pub invariant-renumber_sections-loop-i : goal.invariant-renumber_sections-loop-i
invariant-renumber_sections-loop-i l =
    goal.unvisited-renumber_sections-loop-i l × DoneTo alone (relabelled_among (number_at l.places)) l.i l.initial.sections l.sections

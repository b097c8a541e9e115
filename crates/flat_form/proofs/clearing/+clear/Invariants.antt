use Rattle.c_tree.specs.Views.{tree_at}
use Rattle.flat_laws.specs.Unlabelled.{unlabelled_among}
use Rattle.flat_form.specs.Cleared.{inside}
use Rattle.flat_form.proofs.Renumbered.{DoneTo, alone}
use Rattle.flat_form.proofs.clearing.+clear.Given as goal

abbrev pub invariant-clear_items-loop-i : goal.invariant-clear_items-loop-i
invariant-clear_items-loop-i l = goal.unvisited-clear_items-loop-i l × DoneTo tree_at (inside l.strays) l.i l.initial.items l.items

abbrev pub invariant-clear_sections-loop-i : goal.invariant-clear_sections-loop-i
invariant-clear_sections-loop-i l = goal.unvisited-clear_sections-loop-i l × DoneTo alone unlabelled_among l.i l.initial.sections l.sections

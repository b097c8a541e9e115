use Rattle.std.proofs.Common.{sym, ap, ◌∙◌}
use Rattle.c_tree.specs.Views.{tree_at}
use Rattle.c_tree.proofs.Views.{at-Evaluate}
use Rattle.tidy_loops.proofs.FormLaws.{expression_same}
use Rattle.tidy_loops.specs.Slots.{reset_in, reset_slot}
use Rattle.tidy_loops.proofs.reading.reset_slot.Goals as goal

pub returns-in-Evaluate : goal.returns-in-Evaluate
returns-in-Evaluate c =
    c.reset_slot_of.ensures ∙ ap reset_in (sym (expression_same c.in-Evaluate.e)) ∙
    sym (ap reset_slot (ap tree_at c.in-Evaluate.is ∙ at-Evaluate c.in-Evaluate.e))

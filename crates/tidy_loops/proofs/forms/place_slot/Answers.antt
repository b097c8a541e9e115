use Rattle.std.proofs.Common.{sym, ap, ◌∙◌}
use Rattle.c_tree.specs.ExpressionTrees.{place_tree}
use Rattle.c_tree.proofs.ExpressionLaws.{place-Var, place-Cell}
use Rattle.tidy_loops.specs.Views.{place_slot}
use Rattle.tidy_loops.proofs.forms.place_slot.Goals as goal

pub returns-in-Var : goal.returns-in-Var
returns-in-Var c = c.home_slot.ensures ∙ sym (ap (λ p. place_slot (place_tree p)) c.in-Var.is ∙ ap place_slot (place-Var c.in-Var.home))

pub returns-in-Cell : goal.returns-in-Cell
returns-in-Cell c = sym (ap (λ p. place_slot (place_tree p)) c.in-Cell.is ∙ ap place_slot (place-Cell c.in-Cell.field-0 c.in-Cell.field-1))

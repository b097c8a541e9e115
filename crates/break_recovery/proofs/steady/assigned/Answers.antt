use Rattle.std.proofs.Common.{cond, OnOk, ◌≡◌, sym, ap, subst, ◌∙◌}
use Rattle.c_tree.specs.ExpressionTrees.{expression_tree}
use Rattle.tidy_loops.specs.Views.{is_it, off_slot}
use Rattle.tidy_loops.proofs.FormLaws.{expression_same}
use Rattle.break_recovery.specs.Steady.{no_slot, both, one_of}
use Rattle.break_recovery.proofs.steady.assigned.Goals as goal

pub returns : goal.returns
returns c =
    let v = c.args.value.now in
    subst (λ z. OnOk c.add.result (c.add.new.turned ≡ both c.args.turned.now z))
    (ap one_of (c.off_slot.ensures ∙ ap off_slot (sym (expression_same v)))
    ∙ sym (ap (λ b. cond b (one_of (off_slot (expression_tree v))) no_slot)
    (ap (is_it c.args.slot) (sym c.place_slot.ensures) ∙ sym c.is_it.ensures ∙ c.if-not-is_it.false)))
    c.add.ensures

use Rattle.std.proofs.Common.{pos, cond, ◌∷◌, ap, sym, ◌∙◌, subst}
use Rattle.std.specs.Int.{w128}
use Rattle.std.proofs.lemmas.Int.{to_z-of_z}
use Rattle.c_types.specs.Numbers.{converted, promoted, arith_result}
use Rattle.jump_meaning.specs.Values as Meant
use Rattle.step_memory.specs.Stores.{names_of, StoresIn}
use Rattle.step_memory.specs.Values.{values_of}
use Rattle.step_tasks.proofs.StoredLemmas.{counted_cell, in_range_fits}
use Rattle.step_tasks.proofs.stored.count_cell.Goals as goal

pub returns-in_ok-leave_number-in-Ok-clause-ok : goal.returns-in_ok-leave_number-in-Ok-clause-ok
returns-in_ok-leave_number-in-Ok-clause-ok c place e =
    let old = to_z-of_z w128 c.in_ok-old.old c.in_ok-old.ensures.fits in
    let new = to_z-of_z w128 c.in-Ok.new (in_range_fits c.promote-promoted.result c.in-Ok.new c.in-Ok.ensures.in_range) in
    counted_cell c.args.store.now c.set.new.self c.args.up c.args.after place c.args.values.now c.leave_number.new.values c.args.owner c.args.at
    c.in_ok-old.old c.in-Ok.new c.in_ok-kind.kind
    e c.in_ok-old.ensures.ok c.in_ok-kind.ensures.ok
    (ap (λ o. arith_result o (promoted c.in_ok-kind.kind) c.in_ok-old.old (pos 1)) (sym c.count_op.ensures)
    ∙ ap (λ k. arith_result c.count_op.result k c.in_ok-old.old (pos 1)) (sym c.promote-promoted.ensures)
    ∙ ap (λ n. arith_result c.count_op.result c.promote-promoted.result n (pos 1)) (sym old) ∙ sym c.arith.ensures.value ∙ c.in-Ok.is)
    (subst (λ z. StoresIn c.args.owner c.args.at z c.args.store.now c.set.new.self) new c.in_ok-set-in-Ok.ensures.ok)
    (c.in_ok-leave_number-in-Ok.ensures.ok (names_of c.args.store.now) ∙
    ap (λ z. Meant.Integer z ∷ values_of (names_of c.args.store.now) c.args.values.now)
    (old ∙ sym (ap (λ b. cond b c.in_ok-old.old (converted c.in_ok-kind.kind c.in-Ok.new)) c.if-after.true)))

pub returns-in_ok-leave_number-in-Ok-2-clause-ok : goal.returns-in_ok-leave_number-in-Ok-2-clause-ok
returns-in_ok-leave_number-in-Ok-2-clause-ok c place e =
    let old = to_z-of_z w128 c.in_ok-old.old c.in_ok-old.ensures.fits in
    let new = to_z-of_z w128 c.in-Ok.new (in_range_fits c.promote-promoted.result c.in-Ok.new c.in-Ok.ensures.in_range) in
    counted_cell c.args.store.now c.set.new.self c.args.up c.args.after place c.args.values.now c.leave_number-else-after.new.values c.args.owner
    c.args.at c.in_ok-old.old c.in-Ok.new c.in_ok-kind.kind
    e c.in_ok-old.ensures.ok c.in_ok-kind.ensures.ok
    (ap (λ o. arith_result o (promoted c.in_ok-kind.kind) c.in_ok-old.old (pos 1)) (sym c.count_op.ensures)
    ∙ ap (λ k. arith_result c.count_op.result k c.in_ok-old.old (pos 1)) (sym c.promote-promoted.ensures)
    ∙ ap (λ n. arith_result c.count_op.result c.promote-promoted.result n (pos 1)) (sym old) ∙ sym c.arith.ensures.value ∙ c.in-Ok.is)
    (subst (λ z. StoresIn c.args.owner c.args.at z c.args.store.now c.set.new.self) new c.in_ok-set-in-Ok.ensures.ok)
    (c.in_ok-leave_number-in-Ok-2.ensures.ok (names_of c.args.store.now) ∙
    ap (λ z. Meant.Integer z ∷ values_of (names_of c.args.store.now) c.args.values.now)
    (to_z-of_z w128 c.convert.result (record { sfits = c.convert.type_inv }) ∙ c.convert.ensures.value ∙ ap (converted c.in_ok-kind.kind) new ∙
    sym (ap (λ b. cond b c.in_ok-old.old (converted c.in_ok-kind.kind c.in-Ok.new)) c.if-after.false)))

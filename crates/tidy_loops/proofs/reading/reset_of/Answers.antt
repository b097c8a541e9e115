use Rattle.std.proofs.Common.{◌&&◌, cond, None, sym, ap, ◌∙◌}
use Rattle.c_tree.specs.ExpressionTrees.{expression_tree, place_tree}
use Rattle.tidy_laws.specs.Changes.{is_number}
use Rattle.tidy_loops.specs.Views.{place_slot}
use Rattle.tidy_loops.proofs.FormLaws.{expression_same}
use Rattle.tidy_loops.proofs.reading.reset_of.Goals as goal

pub returns-then-not-is_int : goal.returns-then-not-is_int
returns-then-not-is_int c =
    let e = expression_tree c.args.value.now in
    let p = place_tree c.args.place.now in
    sym (ap (λ b. cond (b && is_number 0 e) (place_slot p) None) (sym c.is_int.ensures ∙ c.if-not-is_int.true))

pub returns-then-not-is_number : goal.returns-then-not-is_number
returns-then-not-is_number c =
    let e = expression_tree c.args.value.now in
    let p = place_tree c.args.place.now in
    sym (ap (λ b. cond (b && is_number 0 e) (place_slot p) None) (sym c.is_int.ensures ∙ c.if-not-is_int.false)
    ∙ ap (λ b. cond b (place_slot p) None) (ap (is_number 0) (expression_same c.args.value.now) ∙ sym c.is_number.ensures ∙ c.if-not-is_number.true))

pub returns : goal.returns
returns c =
    let e = expression_tree c.args.value.now in
    let p = place_tree c.args.place.now in
    c.place_slot.ensures
    ∙ sym (ap (λ b. cond (b && is_number 0 e) (place_slot p) None) (sym c.is_int.ensures ∙ c.if-not-is_int.false)
    ∙ ap (λ b. cond b (place_slot p) None) (ap (is_number 0) (expression_same c.args.value.now) ∙ sym c.is_number.ensures ∙ c.if-not-is_number.false))

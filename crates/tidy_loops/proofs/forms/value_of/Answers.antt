use Rattle.std.proofs.Common.{true, false, sym, ap, refl, ◌∙◌}
use Rattle.c_tree.specs.ExpressionTrees.{expression_tree, place_tree}
use Rattle.c_tree.proofs.ExpressionLaws.{expression-parts}
use Rattle.tidy_laws.specs.Mentions.{lacks}
use Rattle.tidy_laws.specs.Changes.{is_narrow_expression}
use Rattle.tidy_loops.specs.Views.{is_it}
use Rattle.tidy_loops.proofs.FormLaws.{value_when, lacks_by}
use Rattle.tidy_loops.proofs.forms.value_of.Goals as goal

pub returns-then-not-is_it : goal.returns-then-not-is_it
returns-then-not-is_it c =
    let g = c.args.slot in
    let e = expression_tree c.args.value.now in
    sym (value_when g (place_tree c.args.place.now) e false (is_narrow_expression e) (lacks g e)
    (ap (is_it g) (sym c.place_slot.ensures) ∙ sym c.is_it.ensures ∙ c.if-not-is_it.true) refl refl)

pub returns-then-not-is_narrow : goal.returns-then-not-is_narrow
returns-then-not-is_narrow c =
    let g = c.args.slot in
    let e = expression_tree c.args.value.now in
    sym (value_when g (place_tree c.args.place.now) e true false (lacks g e)
    (ap (is_it g) (sym c.place_slot.ensures) ∙ sym c.is_it.ensures ∙ c.if-not-is_it.false)
    (ap is_narrow_expression (expression-parts c.args.value.now) ∙ sym c.is_narrow.ensures ∙ c.if-not-is_narrow.true) refl)

pub returns-then-names : goal.returns-then-names
returns-then-names c =
    let g = c.args.slot in
    let e = expression_tree c.args.value.now in
    sym (value_when g (place_tree c.args.place.now) e true true false
    (ap (is_it g) (sym c.place_slot.ensures) ∙ sym c.is_it.ensures ∙ c.if-not-is_it.false)
    (ap is_narrow_expression (expression-parts c.args.value.now) ∙ sym c.is_narrow.ensures ∙ c.if-not-is_narrow.false)
    (lacks_by c.names.result (lacks g e) false c.names.ensures c.if-names.true))

pub returns : goal.returns
returns c =
    let g = c.args.slot in
    let e = expression_tree c.args.value.now in
    sym (value_when g (place_tree c.args.place.now) e true true true
    (ap (is_it g) (sym c.place_slot.ensures) ∙ sym c.is_it.ensures ∙ c.if-not-is_it.false)
    (ap is_narrow_expression (expression-parts c.args.value.now) ∙ sym c.is_narrow.ensures ∙ c.if-not-is_narrow.false)
    (lacks_by c.names.result (lacks g e) true c.names.ensures c.if-names.false))

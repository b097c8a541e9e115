use Rattle.std.proofs.Common.{◌++◌, map, refl, sym, ap, ◌∙◌}
use Rattle.std.proofs.lemmas.Result.{on_ok_weaker}
use Rattle.c_tree.specs.Cases.{case_number}
use Rattle.c_tree.specs.Trees.{Tree, Forest, trees_of}
use Rattle.flat_laws.specs.Parts.{arrivals, arrivals_in, cases_among}
use Rattle.c_tree.specs.Views.{tree_at}
use Rattle.c_tree.proofs.Views.{at-If}
use Rattle.c_tree.proofs.Collecting.{collected, collected_all}
use Rattle.flat_questions.proofs.Steps.{numbers_append}
use Rattle.flat_questions.proofs.cases.+numbering.Goals as goal
use Rattle.std.proofs.Common.{append_assoc}

pub add_item-returns-in_ok-add_list-in-If : goal.add_item-returns-in_ok-add_list-in-If
add_item-returns-in_ok-add_list-in-If t c = on_ok_weaker c.add_list-in-If.result (λ h.
    let k = c.args.kind in
    let ns = map (case_number k) (cases_among (arrivals (trees_of c.in-If.a))) in
    let ms = map (case_number k) (cases_among (arrivals (trees_of c.in-If.b))) in
    h ∙ ap (λ z. z ++ ms) c.in_ok-add_list-in-If.ensures ∙ append_assoc c.args.out.now ns ms
    ∙ ap (λ z. c.args.out.now ++ z) (sym (ap (λ y. map (case_number k) (cases_among (arrivals_in (tree_at y)))) c.in-If.is
    ∙ ap (λ (x : Tree). map (case_number k) (cases_among (arrivals_in x))) (at-If c.in-If.field-0 c.in-If.a c.in-If.b) ∙
    numbers_append k (arrivals (trees_of c.in-If.a)) (arrivals (trees_of c.in-If.b)))))
    c.add_list-in-If.ensures

pub add_items-loop-i-preserved : goal.add_items-loop-i-preserved
add_items-loop-i-preserved t c =
    let k = c.args.kind in
    collected (λ (a : Forest). map (case_number k) (cases_among (arrivals a))) (λ (x : Tree). map (case_number k) (cases_among (arrivals_in x)))
    (λ x xs. numbers_append k (arrivals_in x) (arrivals xs))
    c.args.items.now c.loop-i.i c.index-items-i.result c.loop-i-test.true c.index-items-i.is c.loop-i.out c.add_item.new.out _ c.loop-i.invariant
    c.in_ok-add_item.ensures

pub add_items-returns : goal.add_items-returns
add_items-returns t c = collected_all (λ (a : Forest). map (case_number c.args.kind) (cases_among (arrivals a))) refl c.args.items.now c.loop-i.i
    c.loop-i-test.false c.loop-i.out _ c.loop-i.invariant

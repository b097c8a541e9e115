use Rattle.std.proofs.Common.{◌++◌, ◌∷◌, append_assoc, refl, sym, ap, ◌∙◌}
use Rattle.std.proofs.lemmas.Result.{on_ok_weaker}
use Rattle.c_tree.specs.Paths.{list_of}
use Rattle.c_tree.specs.declared.tree.Section.{Section}
use Rattle.c_tree.specs.Trees.{trees_of}
use Rattle.c_tree.specs.Views.{tree_at}
use Rattle.c_tree.proofs.Views.{at-If, at-For}
use Rattle.c_tree.proofs.Collecting.{collected, collected_all, collected_in, collected_all_in}
use Rattle.flat_names.specs.FlatNames.{constructs, constructs_in, constructs_among}
use Rattle.flat_names.specs.declared.constructs.Construct.TheVariants.{Stays}
use Rattle.flat_names.proofs.constructs.+listing.Goals as goal

pub add_items-loop-i-preserved : goal.add_items-loop-i-preserved
add_items-loop-i-preserved t c =
    collected constructs constructs_in (λ x xs. refl) c.args.items.now c.loop-i.i c.index-items-i.result c.loop-i-test.true c.index-items-i.is
    c.loop-i.out c.add_item.new.out _ c.loop-i.invariant c.in_ok-add_item.ensures

pub add_items-returns : goal.add_items-returns
add_items-returns t c = collected_all constructs refl c.args.items.now c.loop-i.i c.loop-i-test.false c.loop-i.out _ c.loop-i.invariant

pub add_sections-loop-i-preserved : goal.add_sections-loop-i-preserved
add_sections-loop-i-preserved t c =
    collected_in constructs_among (λ (s : Section). constructs (trees_of (list_of s))) (λ s d. refl) c.args.sections.now c.loop-i.i
    c.index-sections-i.result c.loop-i-test.true c.index-sections-i.is c.loop-i.out c.add_list.new.out _ c.loop-i.invariant
    (c.in_ok-add_list.ensures ∙ ap (λ z. c.loop-i.out ++ constructs (trees_of (list_of z))) (sym c.index-sections-i.is))

pub add_sections-returns : goal.add_sections-returns
add_sections-returns t c = collected_all_in constructs_among refl c.args.sections.now c.loop-i.i c.loop-i-test.false c.loop-i.out _ c.loop-i.invariant

pub add_item-returns-in_ok-add_list-in-If : goal.add_item-returns-in_ok-add_list-in-If
add_item-returns-in_ok-add_list-in-If t c = on_ok_weaker c.add_list-in-If.result (λ h.
    let a = constructs (trees_of c.in-If.a) in
    let b = constructs (trees_of c.in-If.b) in
    h ∙ ap (λ z. z ++ b) c.in_ok-add_list-in-If.ensures ∙ append_assoc c.args.out.now a b
    ∙ ap (λ z. c.args.out.now ++ z) (sym (ap (λ y. constructs_in (tree_at y)) c.in-If.is ∙ ap constructs_in (at-If c.in-If.field-0 c.in-If.a c.in-If.b))))
    c.add_list-in-If.ensures

pub add_item-returns-in_ok-add_loop-in-For : goal.add_item-returns-in_ok-add_loop-in-For
add_item-returns-in_ok-add_loop-in-For t c = on_ok_weaker c.add_list-in-For.result (λ h.
    let a = Stays ∷ constructs (trees_of c.in-For.first) in
    let b = constructs (trees_of c.in-For.a) in
    h ∙ ap (λ z. z ++ b) c.in_ok-add_loop-in-For.ensures ∙ append_assoc c.args.out.now a b
    ∙ ap (λ z. c.args.out.now ++ z) (sym (ap (λ y. constructs_in (tree_at y)) c.in-For.is ∙
    ap constructs_in (at-For c.in-For.first c.in-For.field-1 c.in-For.field-2 c.in-For.a))))
    c.add_list-in-For.ensures

use Rattle.std.proofs.Common.{◌≡◌, ap, ◌∙◌}
use Rattle.plain_form.specs.Marks.{test_marked, item_marked, items_marked}
use Rattle.plain_form.proofs.MarkLaws.{item_marked-If, item_marked-For}
use Rattle.plain_form.proofs.left.+mark_items.Goals as goal

pub mark_item-returns-in-If : goal.mark_item-returns-in-If
mark_item-returns-in-If t c =
    let ms = c.args.marks.now in
    let e : item_marked c.args.item.now ms ≡ items_marked c.in-If.b (items_marked c.in-If.a (test_marked c.in-If.test ms)) =
    ap (λ x. item_marked x ms) c.in-If.is ∙ item_marked-If c.in-If.test c.in-If.a c.in-If.b ms in
    cc (e, c.mark_items-in-If.ensures, c.mark_items.ensures, c.mark_test.ensures, c.as_slice.ensures.value, c.as_slice-in-If.ensures.value)

pub mark_item-returns-in-For : goal.mark_item-returns-in-For
mark_item-returns-in-For t c =
    let ms = c.args.marks.now in
    let e : item_marked c.args.item.now ms ≡ items_marked c.in-For.a (items_marked c.in-For.first ms) =
    ap (λ x. item_marked x ms) c.in-For.is ∙ item_marked-For c.in-For.first c.in-For.field-1 c.in-For.field-2 c.in-For.a ms in
    cc (e, c.mark_items-in-For-2.ensures, c.mark_items-in-For.ensures, c.as_slice-in-For.ensures.value, c.as_slice-in-For-2.ensures.value)

use Rattle.std.proofs.Common.{arith, ap, sym, ◌∙◌}
use Rattle.c_tree.specs.Trees.{trees_of, sections_of}
use Rattle.c_tree.specs.Paths.{list_of}
use Rattle.c_tree.specs.Everywhere.{total_in}
use Rattle.c_tree.specs.Labels.{land_of, lands}
use Rattle.label_offsets.specs.Marks.{held}
use Rattle.label_offsets.proofs.HeldLaws.{lands-more, lands-all, section_lands-more, section_lands-all, none_found, found_later, found_here, found_nowhere, is_land-some, is_land-none, held-If, held-For}
use Rattle.label_offsets.proofs.marks.+land.Goals as goal
use Rattle.label_offsets.proofs.marks.+land.Goals.{items_have_land-then-is_land-via-then-is_land, items_have_land-then-is_land-via-else-is_land+then-has_inside}

pub has_inside-returns-else-has_land : goal.has_inside-returns-else-has_land
has_inside-returns-else-has_land t c =
    let l = c.args.label in
    found_later c.has_land-else-has_land.result (lands l (trees_of c.in-If.a)) (lands l (trees_of c.in-If.b)) (held l c.args.item.now)
    (ap (held l) c.in-If.is ∙ held-If l c.in-If.field-0 c.in-If.a c.in-If.b) (none_found c.has_land.ensures c.if-has_land.false)
    c.has_land-else-has_land.ensures

pub has_inside-returns-else-has_land-2 : goal.has_inside-returns-else-has_land-2
has_inside-returns-else-has_land-2 t c =
    let l = c.args.label in
    found_later c.has_land-else-has_land-2.result (lands l (trees_of c.in-For.first)) (lands l (trees_of c.in-For.a)) (held l c.args.item.now)
    (ap (held l) c.in-For.is ∙ held-For l c.in-For.first c.in-For.field-1 c.in-For.field-2 c.in-For.a)
    (none_found c.has_land-in-For.ensures c.if-has_land-2.false)
    c.has_land-else-has_land-2.ensures

pub items_have_land-returns-then-is_land : goal.items_have_land-returns-then-is_land
items_have_land-returns-then-is_land t c =
    let l = c.args.label in
    let x = c.item-item.result in
    let more = lands-more l c.args.items.now c.loop-item.item-index x c.loop-item-test.true c.item-item.is in
    elim c.then-is_land.branch [
      | items_have_land-then-is_land-via-then-is_land w ↦
          let one = is_land-some l x (sym c.is_land.ensures ∙ w.if-is_land.true) in
          found_here 1 (lands l (trees_of c.args.items.now)) (omega (arith, c.loop-item.invariant)) (omega arith)
      | items_have_land-then-is_land-via-else-is_land+then-has_inside w ↦
          let some = w.has_inside.ensures.0 w.if-has_inside.true in
          found_here (held l x) (lands l (trees_of c.args.items.now)) (omega (arith, c.loop-item.invariant)) some
    ]

pub items_have_land-loop-item-preserved : goal.items_have_land-loop-item-preserved
items_have_land-loop-item-preserved t c =
    let l = c.args.label in
    let x = c.item-item.result in
    let more = lands-more l c.args.items.now c.loop-item.item-index x c.loop-item-test.true c.item-item.is in
    let none = is_land-none l x (sym c.is_land.ensures ∙ c.if-is_land.false) in
    let nothing = none_found c.has_inside.ensures c.if-has_inside.false in
    omega (arith, c.loop-item.invariant)

pub items_have_land-returns : goal.items_have_land-returns
items_have_land-returns t c =
    found_nowhere (lands c.args.label (trees_of c.args.items.now))
    (c.loop-item.invariant ∙ lands-all c.args.label c.args.items.now c.loop-item.item-index c.loop-item-test.false)

pub sections_have_land-returns-then-has_land : goal.sections_have_land-returns-then-has_land
sections_have_land-returns-then-has_land t c =
    let l = c.args.label in
    let s = c.section-item.result in
    let more = section_lands-more l c.args.sections.now c.loop-section.section-index s c.loop-section-test.true c.section-item.is in
    let some = c.has_land.ensures.0 c.if-has_land.true in
    found_here (lands l (trees_of (list_of s))) (total_in (land_of l) (sections_of c.args.sections.now)) (omega (arith, c.loop-section.invariant)) some

pub sections_have_land-loop-section-preserved : goal.sections_have_land-loop-section-preserved
sections_have_land-loop-section-preserved t c =
    let l = c.args.label in
    let s = c.section-item.result in
    let more = section_lands-more l c.args.sections.now c.loop-section.section-index s c.loop-section-test.true c.section-item.is in
    let nothing = none_found c.has_land.ensures c.if-has_land.false in
    omega (arith, c.loop-section.invariant)

pub sections_have_land-returns : goal.sections_have_land-returns
sections_have_land-returns t c =
    found_nowhere (total_in (land_of c.args.label) (sections_of c.args.sections.now))
    (c.loop-section.invariant ∙ section_lands-all c.args.label c.args.sections.now c.loop-section.section-index c.loop-section-test.false)

use Rattle.std.proofs.Common.{◌≡◌, ◌++◌, ap, ◌∙◌}
use Rattle.c_copies.specs.Names.{expressions_names, option_names, test_names, selector_names, item_names, section_names, items_names, sections_names}
use Rattle.c_copies.proofs.NameLemmas.{then_names, after_names, names_step, item_names-If, item_names-While, item_names-Do, item_names-For, item_names-Switch, section_names-is}
use Rattle.c_copies.proofs.program_names.+add_items.Goals as goal

pub add_items-loop-i-preserved : goal.add_items-loop-i-preserved
add_items-loop-i-preserved t c =
    names_step item_names c.loop-i.set c.add_item.new.set _ c.args.items.now c.loop-i.i c.index-items-i.result
    c.loop-i-test.true c.index-items-i.is c.in_ok-add_item.ensures c.loop-i.invariant

pub add_sections-loop-i-preserved : goal.add_sections-loop-i-preserved
add_sections-loop-i-preserved t c =
    names_step section_names c.loop-i.set c.add_section.new.set _ c.args.sections.now c.loop-i.i c.index-sections-i.result
    c.loop-i-test.true c.index-sections-i.is c.in_ok-add_section.ensures c.loop-i.invariant

pub add_section-returns : goal.add_section-returns
add_section-returns t c =
    let e = section_names-is c.args.section.now in
    let f : section_names c.args.section.now ≡ expressions_names c.as_slice.result.now ++ items_names c.as_slice-2.result.now =
    cc (e, c.as_slice.ensures.value, c.as_slice-2.ensures.value) in
    after_names c.add_items.result c.args.set.now c.add_expressions.new.set c.add_items.new.set
    (expressions_names c.as_slice.result.now) (items_names c.as_slice-2.result.now) (section_names c.args.section.now)
    c.in_ok-add_expressions.ensures f c.add_items.ensures

pub add_item-returns-in_ok-add_items-in-If : goal.add_item-returns-in_ok-add_items-in-If
add_item-returns-in_ok-add_items-in-If t c =
    let e = ap item_names c.in-If.is ∙ item_names-If c.in-If.test c.in-If.a c.in-If.b in
    let f : item_names c.args.item.now ≡ test_names c.in-If.test ++ items_names c.as_slice.result.now ++ items_names c.as_slice-in-If.result.now =
    cc (e, c.as_slice.ensures.value, c.as_slice-in-If.ensures.value) in
    after_names c.add_items-in-If.result c.args.set.now c.add_items.new.set c.add_items-in-If.new.set
    (test_names c.in-If.test ++ items_names c.as_slice.result.now) (items_names c.as_slice-in-If.result.now) (item_names c.args.item.now)
    (then_names c.args.set.now c.add_test.new.set c.add_items.new.set (test_names c.in-If.test) (items_names c.as_slice.result.now)
    c.in_ok-add_test-in-If.ensures c.in_ok-add_items-in-If.ensures)
    f c.add_items-in-If.ensures

pub add_item-returns-in_ok-add_test-in-While : goal.add_item-returns-in_ok-add_test-in-While
add_item-returns-in_ok-add_test-in-While t c =
    let e = ap item_names c.in-While.is ∙ item_names-While c.in-While.test c.in-While.a in
    let f : item_names c.args.item.now ≡ test_names c.in-While.test ++ items_names c.as_slice-in-While.result.now = cc (e, c.as_slice-in-While.ensures.value) in
    after_names c.add_items-in-While.result c.args.set.now c.add_test-in-While.new.set c.add_items-in-While.new.set
    (test_names c.in-While.test) (items_names c.as_slice-in-While.result.now) (item_names c.args.item.now)
    c.in_ok-add_test-in-While.ensures f c.add_items-in-While.ensures

pub add_item-returns-in_ok-add_items-in-Do : goal.add_item-returns-in_ok-add_items-in-Do
add_item-returns-in_ok-add_items-in-Do t c =
    let e = ap item_names c.in-Do.is ∙ item_names-Do c.in-Do.a c.in-Do.test in
    let f : item_names c.args.item.now ≡ items_names c.as_slice-in-Do.result.now ++ test_names c.in-Do.test = cc (e, c.as_slice-in-Do.ensures.value) in
    after_names c.add_test-in-Do.result c.args.set.now c.add_items-in-Do.new.set c.add_test-in-Do.new.set
    (items_names c.as_slice-in-Do.result.now) (test_names c.in-Do.test) (item_names c.args.item.now)
    c.in_ok-add_items-in-Do.ensures f c.add_test-in-Do.ensures

pub add_item-returns-in_ok-add_selector-in-Switch : goal.add_item-returns-in_ok-add_selector-in-Switch
add_item-returns-in_ok-add_selector-in-Switch t c =
    let e = ap item_names c.in-Switch.is ∙ item_names-Switch c.in-Switch.selector c.in-Switch.sections in
    let f : item_names c.args.item.now ≡ selector_names c.in-Switch.selector ++ sections_names c.as_slice-in-Switch.result.now =
    cc (e, c.as_slice-in-Switch.ensures.value) in
    after_names c.add_sections.result c.args.set.now c.add_selector.new.set c.add_sections.new.set
    (selector_names c.in-Switch.selector) (sections_names c.as_slice-in-Switch.result.now) (item_names c.args.item.now)
    c.in_ok-add_selector-in-Switch.ensures f c.add_sections.ensures

pub add_item-returns-in_ok-add_part-in-For-2 : goal.add_item-returns-in_ok-add_part-in-For-2
add_item-returns-in_ok-add_part-in-For-2 t c =
    let e = ap item_names c.in-For.is ∙ item_names-For c.in-For.first c.in-For.test c.in-For.third c.in-For.a in
    let f : item_names c.args.item.now ≡ items_names c.as_slice-in-For.result.now ++ option_names c.in-For.test ++ option_names c.in-For.third ++
    items_names c.as_slice-in-For-2.result.now =
    cc (e, c.as_slice-in-For.ensures.value, c.as_slice-in-For-2.ensures.value) in
    let two = then_names c.args.set.now c.add_items-in-For.new.set c.add_part.new.set
    (items_names c.as_slice-in-For.result.now) (option_names c.in-For.test) c.in_ok-add_items-in-For.ensures c.in_ok-add_part-in-For.ensures in
    let three = then_names c.args.set.now c.add_part.new.set c.add_part-in-For.new.set
    (items_names c.as_slice-in-For.result.now ++ option_names c.in-For.test) (option_names c.in-For.third) two c.in_ok-add_part-in-For-2.ensures in
    after_names c.add_items-in-For-2.result c.args.set.now c.add_part-in-For.new.set c.add_items-in-For-2.new.set
    (items_names c.as_slice-in-For.result.now ++ option_names c.in-For.test ++ option_names c.in-For.third)
    (items_names c.as_slice-in-For-2.result.now) (item_names c.args.item.now)
    three f c.add_items-in-For-2.ensures

use Rattle.std.proofs.Common.{ap}
use Rattle.c_tree.specs.declared.tree.Item.{Evaluate, Return, If, While, Do, For, Switch, Block, Local, Break, Continue, Goto, Mark, Arm, Leap, Land, Arrival, Note}
use Rattle.c_tree.specs.Paths.{list_of}
use Rattle.c_tree.proofs.Views.{trees-at, trees-end, sections-at, sections-end, at-Evaluate, at-Return, at-If, at-While, at-Do, at-For, at-Switch, at-Block, at-Local, at-Break, at-Continue, at-Goto, at-Mark, at-Arm, at-Leap, at-Land, at-Arrival, at-Note}
use Rattle.tidy_slots.specs.Counts.{list_count, sections_count}
use Rattle.tidy_slots.proofs.AddedLemmas.{none_added, then_added, by_item, none_item, list_got, list_have, sections_got, begun, went_on, all_added}
use Rattle.tidy_slots.proofs.count_items.+count.Goals as goal

pub count_list-returns : goal.count_list-returns
count_list-returns t c = list_got c.count_items.result _ _ c.as_slice.result.now c.args.list.now c.as_slice.ensures.value c.count_items.ensures

pub count_items-loop-i-init : goal.count_items-loop-i-init
count_items-loop-i-init t c = begun c.args.counts.now _

pub count_items-loop-i-preserved : goal.count_items-loop-i-preserved
count_items-loop-i-preserved t c =
    went_on c.args.counts.now _ c.loop-i.counts c.count_item.new.counts
    _ _ _ (λ g. ap (list_count g) (trees-at c.args.items.now c.loop-i.i c.index-items-i.result c.loop-i-test.true c.index-items-i.is))
    c.in_ok-count_item.ensures c.loop-i.invariant

pub count_items-returns : goal.count_items-returns
count_items-returns t c = all_added c.args.counts.now _ c.loop-i.counts
    _ (λ g. ap (list_count g) (trees-end c.args.items.now c.loop-i.i c.loop-i-test.false)) c.loop-i.invariant

pub count_sections-loop-i-init : goal.count_sections-loop-i-init
count_sections-loop-i-init t c = begun c.args.counts.now _

pub count_sections-loop-i-preserved : goal.count_sections-loop-i-preserved
count_sections-loop-i-preserved t c =
    went_on c.args.counts.now _ c.loop-i.counts c.count_list.new.counts
    _ _ _ (λ g. ap (sections_count g) (sections-at c.args.sections.now c.loop-i.i c.index-sections-i.result c.loop-i-test.true c.index-sections-i.is))
    (list_have _ _ _ (list_of c.index-sections-i.result) (ap list_of c.index-sections-i.is) c.in_ok-count_list.ensures) c.loop-i.invariant

pub count_sections-returns : goal.count_sections-returns
count_sections-returns t c = all_added c.args.counts.now _ c.loop-i.counts
    _ (λ g. ap (sections_count g) (sections-end c.args.sections.now c.loop-i.i c.loop-i-test.false)) c.loop-i.invariant

pub count_item-returns-in_ok-count_list-in-If : goal.count_item-returns-in_ok-count_list-in-If
count_item-returns-in_ok-count_list-in-If t c =
    by_item c.count_list-in-If.result c.args.counts.now c.count_list-in-If.new.counts c.args.item.now (If c.in-If.test c.in-If.a c.in-If.b)
    _ c.in-If.is (at-If c.in-If.test c.in-If.a c.in-If.b)
    (then_added _ _ c.count_list-in-If.result c.in_ok-count_test-in-If.ensures
    (then_added _ _ c.count_list-in-If.result c.in_ok-count_list-in-If.ensures c.count_list-in-If.ensures))

pub count_item-returns-in_ok-count_test-in-While : goal.count_item-returns-in_ok-count_test-in-While
count_item-returns-in_ok-count_test-in-While t c =
    by_item c.count_list-in-While.result c.args.counts.now c.count_list-in-While.new.counts c.args.item.now (While c.in-While.test c.in-While.a)
    _ c.in-While.is (at-While c.in-While.test c.in-While.a)
    (then_added _ _ c.count_list-in-While.result c.in_ok-count_test-in-While.ensures c.count_list-in-While.ensures)

pub count_item-returns-in_ok-count_list-in-Do : goal.count_item-returns-in_ok-count_list-in-Do
count_item-returns-in_ok-count_list-in-Do t c =
    by_item c.count_test-in-Do.result c.args.counts.now c.count_test-in-Do.new.counts c.args.item.now (Do c.in-Do.a c.in-Do.test) _ c.in-Do.is
    (at-Do c.in-Do.a c.in-Do.test)
    (then_added _ _ c.count_test-in-Do.result c.in_ok-count_list-in-Do.ensures c.count_test-in-Do.ensures)

pub count_item-returns-in_ok-count_part-in-For-2 : goal.count_item-returns-in_ok-count_part-in-For-2
count_item-returns-in_ok-count_part-in-For-2 t c =
    by_item c.count_list-in-For-2.result c.args.counts.now c.count_list-in-For-2.new.counts c.args.item.now
    (For c.in-For.first c.in-For.test c.in-For.third c.in-For.a) _ c.in-For.is (at-For c.in-For.first c.in-For.test c.in-For.third c.in-For.a)
    (then_added _ _ c.count_list-in-For-2.result c.in_ok-count_list-in-For.ensures
    (then_added _ _ c.count_list-in-For-2.result c.in_ok-count_part-in-For.ensures
    (then_added _ _ c.count_list-in-For-2.result c.in_ok-count_part-in-For-2.ensures c.count_list-in-For-2.ensures)))

pub count_item-returns-in_ok-count_selector-in-Switch : goal.count_item-returns-in_ok-count_selector-in-Switch
count_item-returns-in_ok-count_selector-in-Switch t c =
    by_item c.count_sections.result c.args.counts.now c.count_sections.new.counts c.args.item.now (Switch c.in-Switch.selector c.in-Switch.sections)
    _ c.in-Switch.is (at-Switch c.in-Switch.selector c.in-Switch.sections)
    (then_added _ _ c.count_sections.result c.in_ok-count_selector-in-Switch.ensures
    (sections_got c.count_sections.result _ _ c.as_slice.result.now c.in-Switch.sections c.as_slice.ensures.value c.count_sections.ensures))

pub count_item-returns-in-Block : goal.count_item-returns-in-Block
count_item-returns-in-Block t c =
    by_item c.count_list-in-Block.result c.args.counts.now c.count_list-in-Block.new.counts c.args.item.now (Block c.in-Block.a) _ c.in-Block.is
    (at-Block c.in-Block.a)
    (c.count_list-in-Block.ensures)

pub count_item-returns-in-Evaluate : goal.count_item-returns-in-Evaluate
count_item-returns-in-Evaluate t c =
    by_item c.count_expression.result c.args.counts.now c.count_expression.new.counts c.args.item.now (Evaluate c.in-Evaluate.e) _ c.in-Evaluate.is
    (at-Evaluate c.in-Evaluate.e)
    (c.count_expression.ensures)

pub count_item-returns-in-Return : goal.count_item-returns-in-Return
count_item-returns-in-Return t c =
    by_item c.count_option.result c.args.counts.now c.count_option.new.counts c.args.item.now (Return c.in-Return.e) _ c.in-Return.is (at-Return c.in-Return.e)
    (c.count_option.ensures)

pub count_item-returns-in_ok-count_slot-in-Local : goal.count_item-returns-in_ok-count_slot-in-Local
count_item-returns-in_ok-count_slot-in-Local t c =
    by_item c.count_values.result c.args.counts.now c.count_values.new.counts c.args.item.now (Local c.in-Local.at c.in-Local.values) _ c.in-Local.is
    (at-Local c.in-Local.at c.in-Local.values)
    (then_added _ _ c.count_values.result c.in_ok-count_slot-in-Local.ensures c.count_values.ensures)

pub count_item-returns-in-Arm : goal.count_item-returns-in-Arm
count_item-returns-in-Arm t c =
    by_item c.count_option-in-Arm.result c.args.counts.now c.count_option-in-Arm.new.counts c.args.item.now (Arm c.in-Arm.field-0 c.in-Arm.e)
    _ c.in-Arm.is (at-Arm c.in-Arm.field-0 c.in-Arm.e)
    (c.count_option-in-Arm.ensures)

pub count_item-returns-in-Break : goal.count_item-returns-in-Break
count_item-returns-in-Break t c = none_item c.args.counts.now c.args.item.now Break _ c.in-Break.is at-Break (none_added c.args.counts.now)

pub count_item-returns-in-Continue : goal.count_item-returns-in-Continue
count_item-returns-in-Continue t c = none_item c.args.counts.now c.args.item.now Continue _ c.in-Continue.is at-Continue (none_added c.args.counts.now)

pub count_item-returns-in-Goto : goal.count_item-returns-in-Goto
count_item-returns-in-Goto t c = none_item c.args.counts.now c.args.item.now (Goto c.in-Goto.field-0) _ c.in-Goto.is (at-Goto c.in-Goto.field-0)
    (none_added c.args.counts.now)

pub count_item-returns-in-Mark : goal.count_item-returns-in-Mark
count_item-returns-in-Mark t c = none_item c.args.counts.now c.args.item.now (Mark c.in-Mark.field-0) _ c.in-Mark.is (at-Mark c.in-Mark.field-0)
    (none_added c.args.counts.now)

pub count_item-returns-in-Leap : goal.count_item-returns-in-Leap
count_item-returns-in-Leap t c = none_item c.args.counts.now c.args.item.now (Leap c.in-Leap.field-0) _ c.in-Leap.is (at-Leap c.in-Leap.field-0)
    (none_added c.args.counts.now)

pub count_item-returns-in-Land : goal.count_item-returns-in-Land
count_item-returns-in-Land t c = none_item c.args.counts.now c.args.item.now (Land c.in-Land.field-0) _ c.in-Land.is (at-Land c.in-Land.field-0)
    (none_added c.args.counts.now)

pub count_item-returns-in-Arrival : goal.count_item-returns-in-Arrival
count_item-returns-in-Arrival t c = none_item c.args.counts.now c.args.item.now (Arrival c.in-Arrival.field-0) _ c.in-Arrival.is
    (at-Arrival c.in-Arrival.field-0) (none_added c.args.counts.now)

pub count_item-returns-in-Note : goal.count_item-returns-in-Note
count_item-returns-in-Note t c = none_item c.args.counts.now c.args.item.now (Note c.in-Note.field-0) _ c.in-Note.is (at-Note c.in-Note.field-0)
    (none_added c.args.counts.now)

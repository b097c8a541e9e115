use Rattle.guard_vars.proofs.ConversionLemmas.{pushed_as, added_as, if_jumps, if_made, while_made, do_made, for_made, switch_made, other_made}
use Rattle.guard_vars.proofs.conversion.+convert_list.Goals as goal

pub convert_item-returns-in-Some : goal.convert_item-returns-in-Some
convert_item-returns-in-Some t c =
    added_as c.add_conditional_jump.result c.args.out.now c.add_conditional_jump.new.out _ _
    (if_jumps _ c.in-If.test c.in-If.a c.in-If.b _ c.in-Some.label c.in-If.is c.conditional_jump.ensures c.in-Some.is) c.add_conditional_jump.ensures

pub convert_item-returns-in_ok-make_if-in-None : goal.convert_item-returns-in_ok-make_if-in-None
convert_item-returns-in_ok-make_if-in-None t c =
    pushed_as c.push.result c.args.out.now c.push.new.self _ _
    (if_made _ _ c.in-If.test c.in-If.a c.in-If.b c.in_ok-a-in-None.a c.in_ok-b-in-None.b _ c.in-If.is c.conditional_jump.ensures c.in-None.is
    c.in_ok-a-in-None.ensures c.in_ok-b-in-None.ensures c.in_ok-make_if-in-None.ensures) c.push.ensures.ok

pub convert_item-returns-in_ok-make_while-in-While : goal.convert_item-returns-in_ok-make_while-in-While
convert_item-returns-in_ok-make_while-in-While t c =
    pushed_as c.push-in-While.result c.args.out.now c.push-in-While.new.self _ _
    (while_made _ _ c.in-While.test c.in-While.a c.in_ok-a-in-While.a c.in-While.is c.in_ok-a-in-While.ensures c.in_ok-make_while-in-While.ensures)
    c.push-in-While.ensures.ok

pub convert_item-returns-in_ok-make_do-in-Do : goal.convert_item-returns-in_ok-make_do-in-Do
convert_item-returns-in_ok-make_do-in-Do t c =
    pushed_as c.push-in-Do.result c.args.out.now c.push-in-Do.new.self _ _
    (do_made _ _ c.in-Do.a c.in_ok-a-in-Do.a c.in-Do.test c.in-Do.is c.in_ok-a-in-Do.ensures c.in_ok-make_do-in-Do.ensures)
    c.push-in-Do.ensures.ok

pub convert_item-returns-in_ok-make_for-in-For : goal.convert_item-returns-in_ok-make_for-in-For
convert_item-returns-in_ok-make_for-in-For t c =
    pushed_as c.push-in-For.result c.args.out.now c.push-in-For.new.self _ _
    (for_made _ _ c.in-For.first c.in-For.a c.in_ok-first-in-For.first c.in_ok-a-in-For.a c.in-For.test c.in-For.third c.in-For.is
    c.in_ok-first-in-For.ensures c.in_ok-a-in-For.ensures c.in_ok-make_for-in-For.ensures) c.push-in-For.ensures.ok

pub convert_item-returns-in_ok-make_switch-in-Switch : goal.convert_item-returns-in_ok-make_switch-in-Switch
convert_item-returns-in_ok-make_switch-in-Switch t c =
    pushed_as c.push-in-Switch.result c.args.out.now c.push-in-Switch.new.self _ _
    (switch_made _ _ c.in-Switch.selector c.in-Switch.sections c.as_slice.result.now c.in_ok-sections-in-Switch.sections c.in-Switch.is
    c.as_slice.ensures.value c.in_ok-sections-in-Switch.ensures c.in_ok-make_switch-in-Switch.ensures) c.push-in-Switch.ensures.ok

pub convert_item-returns-in_ok-copy_item-in_default : goal.convert_item-returns-in_ok-copy_item-in_default
convert_item-returns-in_ok-copy_item-in_default t c =
    pushed_as c.push-in_default.result c.args.out.now c.push-in_default.new.self _ _
    (other_made c.args.item.now _ c.in_ok-copy_item-in_default.ensures c.in_default.not-Goto c.in_default.not-Mark c.in_default.not-If c.in_default.not-While
    c.in_default.not-Do c.in_default.not-For c.in_default.not-Switch c.in_default.not-Block) c.push-in_default.ensures.ok

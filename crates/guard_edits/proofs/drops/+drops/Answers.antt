use Rattle.std.proofs.Common.{◌≡◌, ◌+◌, suc, length, Some, slice_get, slice_set, refl, sym, ap, subst, ◌∙◌, arith}
use Rattle.std.proofs.lemmas.Option.{slice_get_read}
use Rattle.guard_edits.specs.Goes.{goes}
use Rattle.guard_edits.proofs.GuardGone.{of_if, of_while, of_do, of_for, of_switch, of_block, in_if, in_while, in_do, in_for, in_switch, in_block, kept, same_item, IsDroppedTo, item_gone, item_kept, list_done, item_within, AreDroppedTo, section_gone, all_sections_done, section_within}
use Rattle.guard_edits.proofs.drops.+drops.Goals as goal

pub drop_in-loop-i-preserved-then-goes : goal.drop_in-loop-i-preserved-then-goes
drop_in-loop-i-preserved-then-goes t c =
    let x = c.index-as_slice-i.result in
    let e : slice_get c.loop-i.list c.loop-i.i ≡ Some x = ap (λ z. slice_get z c.loop-i.i) (sym c.as_slice.ensures.value) ∙ slice_get_read
    c.as_slice.result.now _ c.loop-i.i x refl (omega (arith, c.loop-i-test.true, c.len.ensures.value, ap length c.as_slice.ensures.value))
    c.index-as_slice-i.is in
    item_gone c.args.label c.loop-i.i c.args.list.now c.loop-i.list c.take_away.new.list x e (sym c.goes.ensures ∙ c.if-goes.true) c.take_away.ensures
    c.loop-i.invariant

pub drop_in-drop_inside-requires : goal.drop_in-drop_inside-requires
drop_in-drop_inside-requires t c =
    let x = c.index-as_slice-i.result in
    let e : slice_get c.loop-i.list c.loop-i.i ≡ Some x = ap (λ z. slice_get z c.loop-i.i) (sym c.as_slice.ensures.value) ∙ slice_get_read
    c.as_slice.result.now _ c.loop-i.i x refl (omega (arith, c.loop-i-test.true, c.len.ensures.value, ap length c.as_slice.ensures.value))
    c.index-as_slice-i.is in
    let f = same_item c.loop-i.list c.loop-i.i c.at_mut.result.now x c.at_mut.ensures.value e in
    let n = item_within c.args.label c.loop-i.i c.args.list.now c.loop-i.list c.at_mut.result.now c.at_mut.ensures.value c.loop-i.invariant in
    (omega (arith, n, c.decreases), ap (goes c.args.label) f ∙ sym c.goes.ensures ∙ c.if-goes.false)

pub drop_in-loop-i-preserved : goal.drop_in-loop-i-preserved
drop_in-loop-i-preserved t c =
    let more : suc c.loop-i.i ≡ c.loop-i.i + 1 = omega arith in
    subst (λ k. IsDroppedTo c.args.label k c.args.list.now (slice_set c.loop-i.list c.loop-i.i c.drop_inside.new.item)) more
    (item_kept c.args.label c.loop-i.i c.args.list.now c.loop-i.list c.at_mut.result.now c.drop_inside.new.item c.at_mut.ensures.value
    c.drop_inside.ensures c.loop-i.invariant)

pub drop_in-returns : goal.drop_in-returns
drop_in-returns t c = list_done c.args.label c.loop-i.i c.args.list.now c.loop-i.list (omega (arith, c.loop-i-test.false, c.len.ensures.value))
    c.loop-i.invariant

pub drop_inside-drop_in-requires : goal.drop_inside-drop_in-requires
drop_inside-drop_in-requires t c = let n = of_if c.args.item.now c.in-If.test c.in-If.a c.in-If.b (sym c.replace.ensures.value ∙ c.in-If.is) in
    (omega (arith, n, c.decreases), tt)

pub drop_inside-drop_in-requires-in-If : goal.drop_inside-drop_in-requires-in-If
drop_inside-drop_in-requires-in-If t c = let n = of_if c.args.item.now c.in-If.test c.in-If.a c.in-If.b (sym c.replace.ensures.value ∙ c.in-If.is) in
    (omega (arith, n, c.decreases), tt)

pub drop_inside-drop_in-requires-in-While : goal.drop_inside-drop_in-requires-in-While
drop_inside-drop_in-requires-in-While t c = let n = of_while c.args.item.now c.in-While.test c.in-While.a
    (sym c.replace.ensures.value ∙ c.in-While.is) in (omega (arith, n, c.decreases), tt)

pub drop_inside-drop_in-requires-in-Do : goal.drop_inside-drop_in-requires-in-Do
drop_inside-drop_in-requires-in-Do t c = let n = of_do c.args.item.now c.in-Do.test c.in-Do.a (sym c.replace.ensures.value ∙ c.in-Do.is) in
    (omega (arith, n, c.decreases), tt)

pub drop_inside-drop_in-requires-in-For : goal.drop_inside-drop_in-requires-in-For
drop_inside-drop_in-requires-in-For t c = let n = of_for c.args.item.now c.in-For.first c.in-For.test c.in-For.update c.in-For.a
    (sym c.replace.ensures.value ∙ c.in-For.is) in (omega (arith, n, c.decreases), tt)

pub drop_inside-drop_in-requires-in-For-2 : goal.drop_inside-drop_in-requires-in-For-2
drop_inside-drop_in-requires-in-For-2 t c = let n = of_for c.args.item.now c.in-For.first c.in-For.test c.in-For.update c.in-For.a
    (sym c.replace.ensures.value ∙ c.in-For.is) in (omega (arith, n, c.decreases), tt)

pub drop_inside-drop_sections-requires : goal.drop_inside-drop_sections-requires
drop_inside-drop_sections-requires t c = let n = of_switch c.args.item.now c.in-Switch.selector c.in-Switch.sections
    (sym c.replace.ensures.value ∙ c.in-Switch.is) in (omega (arith, n, c.decreases), tt)

pub drop_inside-drop_in-requires-in-Block : goal.drop_inside-drop_in-requires-in-Block
drop_inside-drop_in-requires-in-Block t c = let n = of_block c.args.item.now c.in-Block.a (sym c.replace.ensures.value ∙ c.in-Block.is) in
    (omega (arith, n, c.decreases), tt)

pub drop_inside-returns-in-If : goal.drop_inside-returns-in-If
drop_inside-returns-in-If t c = in_if c.args.label c.args.item.now c.in-If.test c.in-If.a c.in-If.b _ _ (sym c.replace.ensures.value ∙ c.in-If.is)
    c.drop_in.ensures c.drop_in-in-If.ensures

pub drop_inside-returns-in-While : goal.drop_inside-returns-in-While
drop_inside-returns-in-While t c = in_while c.args.label c.args.item.now c.in-While.test c.in-While.a _ (sym c.replace.ensures.value ∙ c.in-While.is)
    c.drop_in-in-While.ensures

pub drop_inside-returns-in-Do : goal.drop_inside-returns-in-Do
drop_inside-returns-in-Do t c = in_do c.args.label c.args.item.now c.in-Do.test c.in-Do.a _ (sym c.replace.ensures.value ∙ c.in-Do.is) c.drop_in-in-Do.ensures

pub drop_inside-returns-in-For : goal.drop_inside-returns-in-For
drop_inside-returns-in-For t c =
    in_for c.args.label c.args.item.now c.in-For.first c.in-For.test c.in-For.update c.in-For.a _ _ (sym c.replace.ensures.value ∙ c.in-For.is)
    c.drop_in-in-For.ensures c.drop_in-in-For-2.ensures

pub drop_inside-returns-in-Switch : goal.drop_inside-returns-in-Switch
drop_inside-returns-in-Switch t c = in_switch c.args.label c.args.item.now c.in-Switch.selector c.in-Switch.sections
    _ (sym c.replace.ensures.value ∙ c.in-Switch.is) c.drop_sections.ensures

pub drop_inside-returns-in-Block : goal.drop_inside-returns-in-Block
drop_inside-returns-in-Block t c = in_block c.args.label c.args.item.now c.in-Block.a _ (sym c.replace.ensures.value ∙ c.in-Block.is) c.drop_in-in-Block.ensures

pub drop_inside-returns-in_default : goal.drop_inside-returns-in_default
drop_inside-returns-in_default t c =
    kept c.args.label c.args.item.now c.replace.result (sym c.replace.ensures.value) c.requires c.in_default.not-If c.in_default.not-While
    c.in_default.not-Do c.in_default.not-For c.in_default.not-Switch c.in_default.not-Block c.in_default.not-Arm

pub drop_sections-drop_section-requires : goal.drop_sections-drop_section-requires
drop_sections-drop_section-requires t c =
    let n = section_within c.args.label c.loop-k.k c.args.sections.now c.loop-k.sections c.at_mut.result.now c.at_mut.ensures.value c.loop-k.invariant in
    (omega (arith, n, c.decreases), tt)

pub drop_sections-loop-k-preserved : goal.drop_sections-loop-k-preserved
drop_sections-loop-k-preserved t c =
    let more : suc c.loop-k.k ≡ c.loop-k.k + 1 = omega arith in
    subst (λ k. AreDroppedTo c.args.label k c.args.sections.now (slice_set c.loop-k.sections c.loop-k.k c.drop_section.new.section)) more
    (section_gone c.args.label c.loop-k.k c.args.sections.now c.loop-k.sections c.at_mut.result.now c.drop_section.new.section c.at_mut.ensures.value
    c.drop_section.ensures c.loop-k.invariant)

pub drop_sections-returns : goal.drop_sections-returns
drop_sections-returns t c = all_sections_done c.args.label c.loop-k.k c.args.sections.now c.loop-k.sections
    (omega (arith, c.loop-k-test.false, c.len.ensures.value)) c.loop-k.invariant

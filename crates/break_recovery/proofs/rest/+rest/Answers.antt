use Rattle.std.proofs.Common.{◌<◌, [], ◌∷◌, length, slice_set, reverse, true, sym, ap, subst, ◌∙◌, arith}
use Rattle.c_tree.specs.Trees.{trees_of, sections_of}
use Rattle.c_tree.specs.Views.{tree_at}
use Rattle.tidy_loops.proofs.Results.{if_ok_more}
use Rattle.break_recovery.specs.Next.{next_list, next_item, next_sections}
use Rattle.break_recovery.specs.Steady.{AreAlike, AreSectionsAlike, IsAlike}
use Rattle.break_recovery.specs.Ways.{IsWay, IsWayIn, IsWayThrough}
use Rattle.tidy_loops.proofs.Sizes.{of_if, of_while, of_do, of_for, of_switch, of_block, item_within, section_within}
use Rattle.break_recovery.proofs.Ways.{way_told}
use Rattle.break_recovery.proofs.RowsWithin.{RowOfList, RowOfItem, RowOfSections, RowOfTwo, while_row, do_row, block_row, switch_row, if_row, for_row, list_row, last_row, no_row, sections_row, first_row, second_row}
use Rattle.break_recovery.proofs.Likeness.{empty_back}
use Rattle.c_tree.proofs.Views.{at-If, at-While, at-Do, at-For, at-Switch, at-Block}
use Rattle.tidy_loops.specs.Slots.{count_in}
use Rattle.break_recovery.specs.Within.{AreWithin}
use Rattle.break_recovery.proofs.Steps.{entry_is}
use Rattle.break_recovery.proofs.Within.{in_list, section_in}
use Rattle.break_recovery.proofs.rest.+rest.Goals as goal

pub change_on-change_on_at-requires : goal.change_on-change_on_at-requires
change_on-change_on_at-requires t c = (omega (arith, c.decreases), (c.goes_on.ensures.on c.if-goes_on.true, c.requires))

pub change_on-returns-then-goes_on : goal.change_on-returns-then-goes_on
change_on-returns-then-goes_on t c =
    if_ok_more c.change_on_at.result _ _ (λ gs k. k (reverse c.args.way.now) c.next_step-at.ensures) c.change_on_at.ensures

pub change_on-returns : goal.change_on-returns
change_on-returns t c =
    let n = c.args.level in
    let v = c.next_step-at.new.way in
    let j = c.change_along.new.place in
    let a = trees_of c.args.list.now in
    let b = trees_of c.change_along.new.list in
    let e = ap reverse (c.goes_on.ensures.ends c.if-goes_on.false) in
    subst (λ w. RowOfList n c.args.counts.now c.change_along.new.counts c.in_ok-slots.slots (reverse c.args.way.now) w a b)
    (sym (way_told c.push.new.self v j c.in_ok-push.ensures.ok ∙ ap (λ w. j ∷ w) e))
    (last_row n c.args.counts.now c.change_along.new.counts c.in_ok-slots.slots (reverse c.args.way.now) (reverse v) c.next_step-at.result j a b
    c.next_step-at.ensures e c.in_ok-slots.ensures)

pub change_on_at-change_on_in-requires : goal.change_on_at-change_on_in-requires
change_on_at-change_on_in-requires t c =
    let xs = c.args.list.now in
    let x = c.at_mut.result.now in
    let n = item_within xs c.args.at x c.at_mut.ensures.value in
    let h : c.args.at < length xs = omega (arith, c.if-at-len.false, c.len.ensures.value) in (
      omega (arith, n, c.decreases),
      in_list (count_in c.args.counts.now) xs c.args.at x h (entry_is xs c.args.at x c.at_mut.ensures.value) c.requires.within,
    )

pub change_on_at-returns-then-at-len : goal.change_on_at-returns-then-at-len
change_on_at-returns-then-at-len t c =
    let n = c.args.level in
    let a = trees_of c.args.list.now in
    let s = c.args.counts.now in
    λ v i. subst (λ gs. RowOfList n s s gs v (reverse c.give_up.new.way) a a) (sym c.give_up.ensures.slots)
    (subst (λ w. RowOfList n s s [] v w a a) (sym (ap reverse c.give_up.ensures.way))
    (no_row (λ f. next_list f n) AreAlike (λ f. IsWay true f n) s v a (λ h. tt)))

pub change_on_at-returns : goal.change_on_at-returns
change_on_at-returns t c =
    let n = c.args.level in
    let xs = c.args.list.now in
    let at = c.args.at in
    let x = c.at_mut.result.now in
    let y = c.change_on_in.new.item in
    let w = c.change_on_in.new.way in
    let s = c.change_on_in.new.counts in
    let gs = c.in_ok-slots.slots in
    let h : at < length xs = omega (arith, c.if-at-len.false, c.len.ensures.value) in
    λ v i. subst (λ u. RowOfList n c.args.counts.now s gs v u (trees_of xs) (trees_of (slice_set xs at y)))
    (sym (way_told c.push.new.self w at c.in_ok-push.ensures.ok))
    (list_row n c.in_ok-inside.inside c.args.counts.now s gs v (reverse c.args.way.now) (reverse w) xs at x y c.in_ok-inside.ensures h
    c.at_mut.ensures.value i (λ e. c.requires.on (empty_back c.args.way.now e)) c.requires.within c.in_ok-slots.ensures)

pub change_on_section-change_on-requires : goal.change_on_section-change_on-requires
change_on_section-change_on-requires t c = (omega (arith, c.decreases), c.requires)

pub change_on_either-change_on-requires : goal.change_on_either-change_on-requires
change_on_either-change_on-requires t c = (omega (arith, c.decreases), c.requires.1)

pub change_on_either-change_on-requires-2 : goal.change_on_either-change_on-requires-2
change_on_either-change_on-requires-2 t c = (omega (arith, c.decreases), c.requires.0)

pub change_on_either-returns-then-next_step-gt0 : goal.change_on_either-returns-then-next_step-gt0
change_on_either-returns-then-next_step-gt0 t c =
    let n = c.args.level in
    let a = trees_of c.args.first.now in
    let b = trees_of c.args.second.now in
    let d = trees_of c.change_on.new.list in
    let v = reverse c.next_step.new.way in
    let w = c.change_on.new.way in
    let s = c.change_on.new.counts in
    let gs = c.in_ok-slots.slots in
    subst (λ u. RowOfTwo n c.args.counts.now s gs (reverse c.args.way.now) u (a, b) (a, d)) (sym (way_told c.push.new.self w 1 c.in_ok-push.ensures.ok))
    (second_row n c.args.counts.now s gs (reverse c.args.way.now) v (reverse w) c.next_step.result c.next_step.ensures a b d
    c.if-next_step-gt0.true c.in_ok-slots.ensures)

pub change_on_either-returns : goal.change_on_either-returns
change_on_either-returns t c =
    let n = c.args.level in
    let a = trees_of c.args.first.now in
    let b = trees_of c.args.second.now in
    let d = trees_of c.change_on-2.new.list in
    let v = reverse c.next_step.new.way in
    let w = c.change_on-2.new.way in
    let s = c.change_on-2.new.counts in
    let gs = c.in_ok-slots-2.slots in
    subst (λ u. RowOfTwo n c.args.counts.now s gs (reverse c.args.way.now) u (a, b) (d, b)) (sym (way_told c.push-2.new.self w 0 c.in_ok-push-2.ensures.ok))
    (first_row n c.args.counts.now s gs (reverse c.args.way.now) v (reverse w) c.next_step.result c.next_step.ensures a b d
    (omega (arith, c.if-next_step-gt0.false)) c.in_ok-slots-2.ensures)

pub change_on_sections-change_on_section-requires : goal.change_on_sections-change_on_section-requires
change_on_sections-change_on_section-requires t c =
    let cs = c.args.sections.now in
    let at = c.next_step-at.result in
    let s = c.at_mut.result.now in
    let n = section_within cs at s c.at_mut.ensures.value in
    let h : at < length cs = omega (arith, c.if-at-len.false, c.len.ensures.value) in
    (omega (arith, n, c.decreases), section_in (count_in c.args.counts.now) cs at s h (entry_is cs at s c.at_mut.ensures.value) c.requires)

pub change_on_sections-returns-then-at-len : goal.change_on_sections-returns-then-at-len
change_on_sections-returns-then-at-len t c =
    let n = c.args.level in
    let a = sections_of c.args.sections.now in
    let s = c.args.counts.now in
    let v = reverse c.args.way.now in
    subst (λ gs. RowOfSections n s s gs v (reverse c.give_up.new.way) a a) (sym c.give_up.ensures.slots)
    (subst (λ w. RowOfSections n s s [] v w a a) (sym (ap reverse c.give_up.ensures.way))
    (no_row (λ f. next_sections f n) AreSectionsAlike (λ f. IsWayThrough true f n) s v a (λ h. tt)))

pub change_on_sections-returns : goal.change_on_sections-returns
change_on_sections-returns t c =
    let n = c.args.level in
    let cs = c.args.sections.now in
    let at = c.next_step-at.result in
    let x = c.at_mut.result.now in
    let y = c.change_on_section.new.section in
    let w = c.change_on_section.new.way in
    let s = c.change_on_section.new.counts in
    let gs = c.in_ok-slots.slots in
    let u = reverse c.args.way.now in
    let h : at < length cs = omega (arith, c.if-at-len.false, c.len.ensures.value) in
    subst (λ r. RowOfSections n c.args.counts.now s gs u r (sections_of cs) (sections_of (slice_set cs at y)))
    (sym (way_told c.push.new.self w at c.in_ok-push.ensures.ok))
    (sections_row n c.args.counts.now s gs u (reverse c.next_step-at.new.way) (reverse w) at cs x y h c.at_mut.ensures.value
    c.in_ok-slots.ensures.rest c.next_step-at.ensures c.in_ok-slots.ensures.row)

pub change_on_in-change_on_either-slots-requires : goal.change_on_in-change_on_either-slots-requires
change_on_in-change_on_either-slots-requires t c =
    let n = of_if c.args.item.now c.in-If.test c.in-If.a c.in-If.b (sym c.replace.ensures.value ∙ c.in-If.is) in (
      omega (arith, n, c.decreases),
      subst (AreWithin (count_in c.args.counts.now)) (ap tree_at (sym c.replace.ensures.value ∙ c.in-If.is) ∙
          at-If c.in-If.test c.in-If.a c.in-If.b) c.requires,
    )

pub change_on_in-change_on-slots-requires : goal.change_on_in-change_on-slots-requires
change_on_in-change_on-slots-requires t c =
    let n = of_while c.args.item.now c.in-While.test c.in-While.a (sym c.replace.ensures.value ∙ c.in-While.is) in (
      omega (arith, n, c.decreases),
      subst (AreWithin (count_in c.args.counts.now)) (ap tree_at (sym c.replace.ensures.value ∙ c.in-While.is) ∙
          at-While c.in-While.test c.in-While.a) c.requires,
    )

pub change_on_in-change_on-slots-requires-in-Do : goal.change_on_in-change_on-slots-requires-in-Do
change_on_in-change_on-slots-requires-in-Do t c =
    let n = of_do c.args.item.now c.in-Do.test c.in-Do.a (sym c.replace.ensures.value ∙ c.in-Do.is) in (
      omega (arith, n, c.decreases),
      subst (AreWithin (count_in c.args.counts.now)) (ap tree_at (sym c.replace.ensures.value ∙ c.in-Do.is) ∙ at-Do c.in-Do.a c.in-Do.test) c.requires,
    )

pub change_on_in-change_on_either-slots-requires-in-For : goal.change_on_in-change_on_either-slots-requires-in-For
change_on_in-change_on_either-slots-requires-in-For t c =
    let n = of_for c.args.item.now c.in-For.first c.in-For.test c.in-For.third c.in-For.a (sym c.replace.ensures.value ∙ c.in-For.is) in (
      omega (arith, n, c.decreases),
      subst (AreWithin (count_in c.args.counts.now)) (ap tree_at (sym c.replace.ensures.value ∙ c.in-For.is) ∙
          at-For c.in-For.first c.in-For.test c.in-For.third c.in-For.a) c.requires,
    )

pub change_on_in-change_on_sections-slots-requires : goal.change_on_in-change_on_sections-slots-requires
change_on_in-change_on_sections-slots-requires t c =
    let n = of_switch c.args.item.now c.in-Switch.selector c.in-Switch.sections (sym c.replace.ensures.value ∙ c.in-Switch.is) in (
      omega (arith, n, c.decreases),
      subst (AreWithin (count_in c.args.counts.now)) (ap tree_at (sym c.replace.ensures.value ∙ c.in-Switch.is) ∙
          at-Switch c.in-Switch.selector c.in-Switch.sections) c.requires,
    )

pub change_on_in-change_on-slots-requires-in-Block : goal.change_on_in-change_on-slots-requires-in-Block
change_on_in-change_on-slots-requires-in-Block t c =
    let n = of_block c.args.item.now c.in-Block.a (sym c.replace.ensures.value ∙ c.in-Block.is) in (
      omega (arith, n, c.decreases),
      subst (AreWithin (count_in c.args.counts.now)) (ap tree_at (sym c.replace.ensures.value ∙ c.in-Block.is) ∙ at-Block c.in-Block.a) c.requires,
    )

pub change_on_in-returns-in-If : goal.change_on_in-returns-in-If
change_on_in-returns-in-If t c =
    if_ok_more c.change_on_either-slots.result _ _
    (λ gs k. if_row c.args.level c.args.counts.now c.change_on_either-slots.new.counts gs (reverse c.args.way.now)
    (reverse c.change_on_either-slots.new.way) c.args.item.now
    c.in-If.test c.in-If.a c.in-If.b c.change_on_either-slots.new.first c.change_on_either-slots.new.second (sym c.replace.ensures.value ∙
    c.in-If.is) k) c.change_on_either-slots.ensures

pub change_on_in-returns-in-While : goal.change_on_in-returns-in-While
change_on_in-returns-in-While t c =
    if_ok_more c.change_on-slots.result _ _
    (λ gs k. while_row c.args.level c.args.counts.now c.change_on-slots.new.counts gs (reverse c.args.way.now)
    (reverse c.change_on-slots.new.way) c.args.item.now
    c.in-While.test c.in-While.a c.change_on-slots.new.list (sym c.replace.ensures.value ∙ c.in-While.is) k) c.change_on-slots.ensures

pub change_on_in-returns-in-Do : goal.change_on_in-returns-in-Do
change_on_in-returns-in-Do t c =
    if_ok_more c.change_on-slots-in-Do.result _ _
    (λ gs k. do_row c.args.level c.args.counts.now c.change_on-slots-in-Do.new.counts gs (reverse c.args.way.now)
    (reverse c.change_on-slots-in-Do.new.way) c.args.item.now
    c.in-Do.test c.in-Do.a c.change_on-slots-in-Do.new.list (sym c.replace.ensures.value ∙ c.in-Do.is) k) c.change_on-slots-in-Do.ensures

pub change_on_in-returns-in-For : goal.change_on_in-returns-in-For
change_on_in-returns-in-For t c =
    if_ok_more c.change_on_either-slots-in-For.result _ _
    (λ gs k. for_row c.args.level c.args.counts.now c.change_on_either-slots-in-For.new.counts gs (reverse c.args.way.now)
    (reverse c.change_on_either-slots-in-For.new.way) c.args.item.now
    c.in-For.first c.in-For.test c.in-For.third c.in-For.a c.change_on_either-slots-in-For.new.first c.change_on_either-slots-in-For.new.second
    (sym c.replace.ensures.value ∙ c.in-For.is) k) c.change_on_either-slots-in-For.ensures

pub change_on_in-returns-in-Switch : goal.change_on_in-returns-in-Switch
change_on_in-returns-in-Switch t c =
    if_ok_more c.change_on_sections-slots.result _ _
    (λ gs k. switch_row c.args.level c.args.counts.now c.change_on_sections-slots.new.counts gs (reverse c.args.way.now)
    (reverse c.change_on_sections-slots.new.way) c.args.item.now
    c.in-Switch.selector c.in-Switch.sections c.change_on_sections-slots.new.sections (sym c.replace.ensures.value ∙
    c.in-Switch.is) k) c.change_on_sections-slots.ensures

pub change_on_in-returns-in-Block : goal.change_on_in-returns-in-Block
change_on_in-returns-in-Block t c =
    if_ok_more c.change_on-slots-in-Block.result _ _
    (λ gs k. block_row c.args.level c.args.counts.now c.change_on-slots-in-Block.new.counts gs (reverse c.args.way.now)
    (reverse c.change_on-slots-in-Block.new.way) c.args.item.now
    c.in-Block.a c.change_on-slots-in-Block.new.list (sym c.replace.ensures.value ∙ c.in-Block.is) k) c.change_on-slots-in-Block.ensures

pub change_on_in-returns-in_default : goal.change_on_in-returns-in_default
change_on_in-returns-in_default t c =
    let n = c.args.level in
    let x = tree_at c.args.item.now in
    let s = c.args.counts.now in
    let v = reverse c.args.way.now in
    subst (λ y. RowOfItem n s s c.give_up.result v (reverse c.give_up.new.way) x (tree_at y)) (sym c.replace.ensures.value)
    (subst (λ gs. RowOfItem n s s gs v (reverse c.give_up.new.way) x x) (sym c.give_up.ensures.slots)
    (subst (λ w. RowOfItem n s s [] v w x x) (sym (ap reverse c.give_up.ensures.way))
    (no_row (λ f. next_item f n) IsAlike (λ f. IsWayIn true f n) s v x (λ h. tt))))

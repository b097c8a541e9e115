use Rattle.std.proofs.Common.{◌≡◌, None, sym, ap, subst, ◌∙◌, arith}
use Rattle.c_tree.specs.declared.tree.Section.{Section}
use Rattle.c_tree.specs.Paths.{list_of}
use Rattle.c_tree.specs.Trees.{trees_of, sections_of}
use Rattle.tidy_loops.proofs.Results.{if_ok_more}
use Rattle.break_recovery.specs.Next.{next_at, next_list, next_sections}
use Rattle.break_recovery.specs.Places.{behind}
use Rattle.break_recovery.proofs.NothingBefore.{none_next}
use Rattle.break_recovery.proofs.Outermost.{none_quiet, more_quiet, all_quiet}
use Rattle.break_recovery.proofs.Steps.{quiet_go, sections_end}
use Rattle.break_recovery.proofs.Ways.{more_quiet_sections}
use Rattle.break_recovery.proofs.Walks.{none_at, no_answer_of, if_none, while_none, do_none, for_none, switch_none, block_none}
use Rattle.c_tree.specs.Views.{tree_at}
use Rattle.c_tree.proofs.Views.{at-If, at-While, at-Do, at-For, at-Switch, at-Block}
use Rattle.tidy_loops.specs.Slots.{count_in}
use Rattle.tidy_loops.proofs.Sizes.{items, items_in, of_if, of_while, of_do, of_for, of_switch, of_block, item_there, section_there}
use Rattle.break_recovery.specs.Within.{IsWithin, AreWithin, AreSectionsWithin}
use Rattle.break_recovery.proofs.Within.{in_list, section_in}
use Rattle.break_recovery.proofs.quiet.+quiet.Goals as goal

pub is_quiet-returns : goal.is_quiet-returns
is_quiet-returns t c =
    let xs = c.args.list.now in
    if_ok_more c.items_are_quiet.result _ _
    (λ q k e f i. none_next f c.args.level (trees_of xs) (λ j.
    subst (λ m. next_at f m (behind j (trees_of xs)) ≡ None) c.in_ok-inside.ensures
    (subst (λ zs. next_at f c.in_ok-inside.inside (behind j (trees_of zs)) ≡ None) c.as_slice.ensures.value (k e f i j))))
    c.items_are_quiet.ensures

pub items_are_quiet-loop-i-init : goal.items_are_quiet-loop-i-init
items_are_quiet-loop-i-init t c = λ f i. none_quiet f c.args.level (trees_of c.args.items.now)

pub items_are_quiet-loop-i-preserved : goal.items_are_quiet-loop-i-preserved
items_are_quiet-loop-i-preserved t c = λ f u.
    let xs = c.args.items.now in
    let i = c.loop-i.i in
    let o = no_answer_of c.in_ok-change.change (sym c.is_some.ensures ∙ c.if-is_some.false) in
    more_quiet f c.args.level i (trees_of xs)
    (none_at f c.args.level c.args.counts.now i xs c.index-items-i.result c.loop-i-test.true c.index-items-i.is u (sym o ∙ c.in_ok-change.ensures)
    (c.in_ok-quiet.ensures c.if-not-quiet.false f u)) (c.loop-i.invariant f u)

pub items_are_quiet-returns : goal.items_are_quiet-returns
items_are_quiet-returns t c = λ e f u. all_quiet f c.args.level c.args.items.now c.loop-i.i c.loop-i-test.false (c.loop-i.invariant f u)

pub sections_are_quiet-loop-i-preserved : goal.sections_are_quiet-loop-i-preserved
sections_are_quiet-loop-i-preserved t c = λ f u.
    let cs = c.args.sections.now in
    let i = c.loop-i.i in
    let s = c.index-sections-i.result in
    more_quiet_sections f c.args.level i cs s c.loop-i-test.true c.index-sections-i.is
    (ap (λ (s : Section). next_list f c.args.level (trees_of (list_of s))) c.index-sections-i.is ∙ c.in_ok-quiet.ensures c.if-not-quiet.false f u)
    (c.loop-i.invariant f u)

pub sections_are_quiet-returns : goal.sections_are_quiet-returns
sections_are_quiet-returns t c = λ e f u.
    let cs = c.args.sections.now in
    sym (sections_end f c.args.level cs c.loop-i.i c.loop-i-test.false (quiet_go f c.args.level c.loop-i.i cs (c.loop-i.invariant f u)))

pub item_is_quiet-returns-in-While : goal.item_is_quiet-returns-in-While
item_is_quiet-returns-in-While t c =
    if_ok_more c.is_quiet-in-While.result _ _ (λ q k e f u. while_none f c.args.level c.args.item.now _ c.in-While.a c.in-While.is (k e f u))
    c.is_quiet-in-While.ensures

pub item_is_quiet-returns-in-Do : goal.item_is_quiet-returns-in-Do
item_is_quiet-returns-in-Do t c =
    if_ok_more c.is_quiet-in-Do.result _ _ (λ q k e f u. do_none f c.args.level c.args.item.now _ c.in-Do.a c.in-Do.is (k e f u))
    c.is_quiet-in-Do.ensures

pub item_is_quiet-returns-in-Block : goal.item_is_quiet-returns-in-Block
item_is_quiet-returns-in-Block t c =
    if_ok_more c.is_quiet-in-Block.result _ _ (λ q k e f u. block_none f c.args.level c.args.item.now c.in-Block.a c.in-Block.is (k e f u))
    c.is_quiet-in-Block.ensures

pub item_is_quiet-returns-in-Switch : goal.item_is_quiet-returns-in-Switch
item_is_quiet-returns-in-Switch t c =
    if_ok_more c.sections_are_quiet.result _ _
    (λ q k e f u. switch_none f c.args.level c.args.item.now _ c.in-Switch.sections c.in-Switch.is
    (subst (λ cs. next_sections f c.args.level (sections_of cs) ≡ None) c.as_slice.ensures.value (k e f u)))
    c.sections_are_quiet.ensures

pub item_is_quiet-returns-else-not-first : goal.item_is_quiet-returns-else-not-first
item_is_quiet-returns-else-not-first t c =
    if_ok_more c.is_quiet-in-If.result _ _ (λ q k e f u. if_none f c.args.level c.args.item.now _ c.in-If.a c.in-If.b c.in-If.is
    (c.in_ok-first-in-If.ensures c.if-not-first.false f u) (k e f u)) c.is_quiet-in-If.ensures

pub item_is_quiet-returns-else-not-before : goal.item_is_quiet-returns-else-not-before
item_is_quiet-returns-else-not-before t c =
    if_ok_more c.is_quiet-in-For-2.result _ _ (λ q k e f u. for_none f c.args.level c.args.item.now c.in-For.start _ _ c.in-For.a c.in-For.is
    (c.in_ok-before-in-For.ensures c.if-not-before.false f u) (k e f u)) c.is_quiet-in-For-2.ensures

pub items_are_quiet-item_is_quiet-requires : goal.items_are_quiet-item_is_quiet-requires
items_are_quiet-item_is_quiet-requires t c =
    let xs = c.args.items.now in
    let x = c.index-items-i.result in
    let n = item_there xs c.loop-i.i x c.loop-i-test.true c.index-items-i.is in
    (omega (arith, n, c.decreases), in_list (count_in c.args.counts.now) xs c.loop-i.i x c.loop-i-test.true c.index-items-i.is c.requires)

pub sections_are_quiet-is_quiet-requires : goal.sections_are_quiet-is_quiet-requires
sections_are_quiet-is_quiet-requires t c =
    let cs = c.args.sections.now in
    let s = c.index-sections-i.result in
    let e = c.index-sections-i.is in
    let n = section_there cs c.loop-i.i s c.loop-i-test.true e in
    let q = ap (λ (z : Section). items (trees_of (list_of z))) e in (
      omega (arith, n, q, c.decreases),
      subst (λ (z : Section). IsWithin (count_in c.args.counts.now) (trees_of (list_of z))) e
          (section_in (count_in c.args.counts.now) cs c.loop-i.i s c.loop-i-test.true e c.requires),
    )

pub item_is_quiet-is_quiet-requires : goal.item_is_quiet-is_quiet-requires
item_is_quiet-is_quiet-requires t c =
    let n = of_if c.args.item.now c.in-If.field-0 c.in-If.a c.in-If.b c.in-If.is in (
      omega (arith, n, c.decreases),
      (subst (AreWithin (count_in c.args.counts.now)) (ap tree_at c.in-If.is ∙ at-If c.in-If.field-0 c.in-If.a c.in-If.b) c.requires).0,
    )

pub item_is_quiet-is_quiet-requires-in-If : goal.item_is_quiet-is_quiet-requires-in-If
item_is_quiet-is_quiet-requires-in-If t c =
    let n = of_if c.args.item.now c.in-If.field-0 c.in-If.a c.in-If.b c.in-If.is in (
      omega (arith, n, c.decreases),
      (subst (AreWithin (count_in c.args.counts.now)) (ap tree_at c.in-If.is ∙ at-If c.in-If.field-0 c.in-If.a c.in-If.b) c.requires).1,
    )

pub item_is_quiet-is_quiet-requires-in-While : goal.item_is_quiet-is_quiet-requires-in-While
item_is_quiet-is_quiet-requires-in-While t c =
    let n = of_while c.args.item.now c.in-While.field-0 c.in-While.a c.in-While.is in (
      omega (arith, n, c.decreases),
      subst (AreWithin (count_in c.args.counts.now)) (ap tree_at c.in-While.is ∙ at-While c.in-While.field-0 c.in-While.a) c.requires,
    )

pub item_is_quiet-is_quiet-requires-in-Do : goal.item_is_quiet-is_quiet-requires-in-Do
item_is_quiet-is_quiet-requires-in-Do t c =
    let n = of_do c.args.item.now c.in-Do.field-1 c.in-Do.a c.in-Do.is in (
      omega (arith, n, c.decreases),
      subst (AreWithin (count_in c.args.counts.now)) (ap tree_at c.in-Do.is ∙ at-Do c.in-Do.a c.in-Do.field-1) c.requires,
    )

pub item_is_quiet-is_quiet-requires-in-For : goal.item_is_quiet-is_quiet-requires-in-For
item_is_quiet-is_quiet-requires-in-For t c =
    let n = of_for c.args.item.now c.in-For.start c.in-For.field-1 c.in-For.field-2 c.in-For.a c.in-For.is in (
      omega (arith, n, c.decreases),
      (subst (AreWithin (count_in c.args.counts.now)) (ap tree_at c.in-For.is ∙
          at-For c.in-For.start c.in-For.field-1 c.in-For.field-2 c.in-For.a) c.requires).0,
    )

pub item_is_quiet-is_quiet-requires-in-For-2 : goal.item_is_quiet-is_quiet-requires-in-For-2
item_is_quiet-is_quiet-requires-in-For-2 t c =
    let n = of_for c.args.item.now c.in-For.start c.in-For.field-1 c.in-For.field-2 c.in-For.a c.in-For.is in (
      omega (arith, n, c.decreases),
      (subst (AreWithin (count_in c.args.counts.now)) (ap tree_at c.in-For.is ∙
          at-For c.in-For.start c.in-For.field-1 c.in-For.field-2 c.in-For.a) c.requires).1,
    )

pub item_is_quiet-sections_are_quiet-requires : goal.item_is_quiet-sections_are_quiet-requires
item_is_quiet-sections_are_quiet-requires t c =
    let n = of_switch c.args.item.now c.in-Switch.field-0 c.in-Switch.sections c.in-Switch.is in
    let e = c.as_slice.ensures.value in
    let k = ap (λ cs. items_in (sections_of cs)) e in (
      omega (arith, n, k, c.decreases),
      subst (λ cs. AreSectionsWithin (count_in c.args.counts.now) (sections_of cs)) (sym e)
          (subst (AreWithin (count_in c.args.counts.now)) (ap tree_at c.in-Switch.is ∙ at-Switch c.in-Switch.field-0 c.in-Switch.sections) c.requires),
    )

pub item_is_quiet-is_quiet-requires-in-Block : goal.item_is_quiet-is_quiet-requires-in-Block
item_is_quiet-is_quiet-requires-in-Block t c =
    let n = of_block c.args.item.now c.in-Block.a c.in-Block.is in (
      omega (arith, n, c.decreases),
      subst (AreWithin (count_in c.args.counts.now)) (ap tree_at c.in-Block.is ∙ at-Block c.in-Block.a) c.requires,
    )

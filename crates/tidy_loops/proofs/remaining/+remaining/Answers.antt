use Rattle.std.proofs.Common.{◌<◌, ◌-◌, drop, length, None, Some, option_map, refl, sym, ap, subst, ◌∙◌, ◌≡◌, arith}
use Rattle.c_tree.specs.declared.tree.Section.{Section}
use Rattle.c_tree.specs.Paths.{list_of}
use Rattle.c_tree.specs.ExpressionTrees.{expression_tree}
use Rattle.c_tree.specs.TestTrees.{test_tree, selector_tree}
use Rattle.c_tree.specs.Trees.{Nil, For, trees_of, sections_of}
use Rattle.c_tree.specs.Views.{tree_at}
use Rattle.c_tree.proofs.Views.{at-If, at-While, at-Do, at-For, at-Switch, at-Block}
use Rattle.tidy_laws.specs.Tails.{is_check}
use Rattle.tidy_laws.specs.Mentions.{test_lacks, selector_lacks, item_lacks}
use Rattle.tidy_slots.specs.Counts.{one_if, test_count, selector_count, list_count, item_count, sections_count}
use Rattle.tidy_slots.proofs.CountLemmas.{none_test, none_selector, none_item}
use Rattle.tidy_loops.specs.Exits.{checks_in, checks_within}
use Rattle.tidy_loops.specs.Remaining.{exits_within, item_exits, IsLeft}
use Rattle.tidy_loops.proofs.FormLaws.{check_if}
use Rattle.tidy_loops.proofs.ExitCounts.{check_one, checks_in_most, checks_within_most}
use Rattle.tidy_loops.proofs.Sizes.{items, items_in, of_if, of_while, of_do, of_for, of_switch, of_block, item_there, section_there}
use Rattle.tidy_loops.proofs.Unnamed.{within_most}
use Rattle.tidy_loops.proofs.LeftOver.{item_left, section_left, some_named, none_named, left_both, left_same, items_none, items_next, items_short, items_read, sections_none, sections_next, sections_short, sections_read, in_loop, in_if}
use Rattle.tidy_loops.proofs.remaining.+remaining.Goals as goal

pub behind_both-behind_list-requires : goal.behind_both-behind_list-requires
behind_both-behind_list-requires t c = let r = c.requires in (omega (arith, c.decreases), omega (arith, r))

pub behind_both-returns-in_default : goal.behind_both-returns-in_default
behind_both-returns-in_default t c =
    let h = subst (IsLeft c.args.left _ _) c.in_default.is c.behind_list.ensures in
    let m = within_most c.args.tail c.args.slot (trees_of c.args.a.now) in
    omega (arith, h, m)

pub behind_item-behind_test-requires-clause-check : goal.behind_item-behind_test-requires-clause-check
behind_item-behind_test-requires-clause-check t c = λ h.
    let g = c.args.slot in
    let f = ap tree_at c.in-If.is ∙ at-If c.in-If.test c.in-If.a c.in-If.b in
    check_one g (test_tree c.in-If.test) (trees_of c.in-If.b)
    (sym (c.is_check.ensures ∙ ap (is_check g) f ∙ check_if g (test_tree c.in-If.test) (trees_of c.in-If.a) (trees_of c.in-If.b)) ∙ h)

pub behind_item-returns-in_default-behind_test : goal.behind_item-returns-in_default-behind_test
behind_item-returns-in_default-behind_test t c =
    let g = c.args.slot in
    let a = trees_of c.in-If.a in
    let b = trees_of c.in-If.b in
    let f = ap tree_at c.in-If.is ∙ at-If c.in-If.test c.in-If.a c.in-If.b in
    let k = ap one_if (c.is_check.ensures ∙ ap (is_check g) f ∙ check_if g (test_tree c.in-If.test) a b) in
    let h = subst (IsLeft c.args.left _ _) c.in_default-behind_test.is c.behind_test.ensures in
    let e = ap (item_exits c.args.tail g) f ∙ in_if c.args.tail g (test_tree c.in-If.test) a b in
    let n = ap (item_count g) f in
    let p = within_most c.args.tail g a in
    let q = within_most c.args.tail g b in
    omega (arith, k, h, e, n, p, q)

pub behind_item-returns-in-Some : goal.behind_item-returns-in-Some
behind_item-returns-in-Some t c =
    let g = c.args.slot in
    let a = trees_of c.in-If.a in
    let b = trees_of c.in-If.b in
    let f = ap tree_at c.in-If.is ∙ at-If c.in-If.test c.in-If.a c.in-If.b in
    let k = ap one_if (c.is_check.ensures ∙ ap (is_check g) f ∙ check_if g (test_tree c.in-If.test) a b) in
    let h = subst (IsLeft c.args.left _ _) c.in-Some.is c.behind_test.ensures in
    let e = ap (item_exits c.args.tail g) f ∙ in_if c.args.tail g (test_tree c.in-If.test) a b in
    let n = ap (item_count g) f in
    left_same c.args.left _ _ _ _ c.behind_both.result (omega (arith, e, k)) (omega (arith, n))
    (left_both c.args.left c.in-Some.rest _ _ _ _ c.behind_both.result h c.behind_both.ensures)

pub behind_item-returns-then-test_names : goal.behind_item-returns-then-test_names
behind_item-returns-then-test_names t c =
    let g = c.args.slot in
    let u = test_tree c.in-While.test in
    let a = trees_of c.in-While.a in
    let f = ap tree_at c.in-While.is ∙ at-While c.in-While.test c.in-While.a in
    let e = ap (item_exits c.args.tail g) f ∙ in_loop c.args.tail (checks_in g a) in
    let n = ap (item_count g) f in
    let m = checks_in_most g a in
    let s = some_named (test_count g u) c.test_names.result (test_lacks g u) c.test_names.ensures (none_test g u) c.if-test_names.true in
    omega (arith, e, n, m, s)

pub behind_item-returns-else-test_names : goal.behind_item-returns-else-test_names
behind_item-returns-else-test_names t c =
    let g = c.args.slot in
    let u = test_tree c.in-While.test in
    let a = trees_of c.in-While.a in
    let f = ap tree_at c.in-While.is ∙ at-While c.in-While.test c.in-While.a in
    let e = ap (item_exits c.args.tail g) f ∙ in_loop c.args.tail (checks_in g a) in
    let n = ap (item_count g) f in
    let s = none_named (test_count g u) c.test_names.result (test_lacks g u) c.test_names.ensures (none_test g u) c.if-test_names.false in
    left_same c.args.left _ _ _ _ c.behind_list.result e (omega (arith, n, s)) c.behind_list.ensures

pub behind_item-returns-then-test_names-2 : goal.behind_item-returns-then-test_names-2
behind_item-returns-then-test_names-2 t c =
    let g = c.args.slot in
    let u = test_tree c.in-Do.test in
    let a = trees_of c.in-Do.a in
    let f = ap tree_at c.in-Do.is ∙ at-Do c.in-Do.a c.in-Do.test in
    let e = ap (item_exits c.args.tail g) f ∙ in_loop c.args.tail (checks_in g a) in
    let n = ap (item_count g) f in
    let m = checks_in_most g a in
    let s = some_named (test_count g u) c.test_names-in-Do.result (test_lacks g u) c.test_names-in-Do.ensures (none_test g u) c.if-test_names-2.true in
    omega (arith, e, n, m, s)

pub behind_item-returns-else-test_names-2 : goal.behind_item-returns-else-test_names-2
behind_item-returns-else-test_names-2 t c =
    let g = c.args.slot in
    let u = test_tree c.in-Do.test in
    let a = trees_of c.in-Do.a in
    let f = ap tree_at c.in-Do.is ∙ at-Do c.in-Do.a c.in-Do.test in
    let e = ap (item_exits c.args.tail g) f ∙ in_loop c.args.tail (checks_in g a) in
    let n = ap (item_count g) f in
    let s = none_named (test_count g u) c.test_names-in-Do.result (test_lacks g u) c.test_names-in-Do.ensures (none_test g u) c.if-test_names-2.false in
    left_same c.args.left _ _ _ _ c.behind_list-in-Do.result e (omega (arith, n, s)) c.behind_list-in-Do.ensures

pub behind_item-returns-then-head_names : goal.behind_item-returns-then-head_names
behind_item-returns-then-head_names t c =
    let g = c.args.slot in
    let h = For (trees_of c.in-For.first) (option_map expression_tree c.in-For.test) (option_map expression_tree c.in-For.third) Nil in
    let a = trees_of c.in-For.a in
    let f = ap tree_at c.in-For.is ∙ at-For c.in-For.first c.in-For.test c.in-For.third c.in-For.a in
    let e = ap (item_exits c.args.tail g) f ∙ in_loop c.args.tail (checks_in g a) in
    let n = ap (item_count g) f in
    let m = checks_in_most g a in
    let s = some_named (item_count g h) c.head_names.result (item_lacks g h) c.head_names.ensures (none_item g h) c.if-head_names.true in
    omega (arith, e, n, m, s)

pub behind_item-returns-else-head_names : goal.behind_item-returns-else-head_names
behind_item-returns-else-head_names t c =
    let g = c.args.slot in
    let h = For (trees_of c.in-For.first) (option_map expression_tree c.in-For.test) (option_map expression_tree c.in-For.third) Nil in
    let a = trees_of c.in-For.a in
    let f = ap tree_at c.in-For.is ∙ at-For c.in-For.first c.in-For.test c.in-For.third c.in-For.a in
    let e = ap (item_exits c.args.tail g) f ∙ in_loop c.args.tail (checks_in g a) in
    let n = ap (item_count g) f in
    let s = none_named (item_count g h) c.head_names.result (item_lacks g h) c.head_names.ensures (none_item g h) c.if-head_names.false in
    left_same c.args.left _ _ _ _ c.behind_list-in-For.result e (omega (arith, n, s)) c.behind_list-in-For.ensures

pub behind_item-returns-then-selector_names : goal.behind_item-returns-then-selector_names
behind_item-returns-then-selector_names t c =
    let g = c.args.slot in
    let u = selector_tree c.in-Switch.selector in
    let a = sections_of c.in-Switch.sections in
    let f = ap tree_at c.in-Switch.is ∙ at-Switch c.in-Switch.selector c.in-Switch.sections in
    let e = ap (item_exits c.args.tail g) f ∙ in_loop c.args.tail (checks_within g a) in
    let n = ap (item_count g) f in
    let m = checks_within_most g a in
    let s = some_named (selector_count g u) c.selector_names.result (selector_lacks g u) c.selector_names.ensures
    (none_selector g u) c.if-selector_names.true in
    omega (arith, e, n, m, s)

pub behind_item-returns-else-selector_names : goal.behind_item-returns-else-selector_names
behind_item-returns-else-selector_names t c =
    let g = c.args.slot in
    let u = selector_tree c.in-Switch.selector in
    let a = sections_of c.in-Switch.sections in
    let f = ap tree_at c.in-Switch.is ∙ at-Switch c.in-Switch.selector c.in-Switch.sections in
    let e = ap (item_exits c.args.tail g) f ∙ in_loop c.args.tail (checks_within g a) in
    let n = ap (item_count g) f in
    let s = none_named (selector_count g u) c.selector_names.result (selector_lacks g u) c.selector_names.ensures (none_selector g u)
    c.if-selector_names.false in
    left_same c.args.left _ _ _ _ c.behind_sections.result e (omega (arith, n, s))
    (subst (λ z. IsLeft c.args.left (checks_within g (sections_of z)) (sections_count g (sections_of z)) c.behind_sections.result)
    c.as_slice.ensures.value c.behind_sections.ensures)

pub behind_items-items-init : goal.behind_items-items-init
behind_items-items-init t c = (omega arith, items_none c.args.tail c.args.slot c.args.left _ c.args.items.now refl)

pub behind_items-returns-then-now-eq0 : goal.behind_items-returns-then-now-eq0
behind_items-returns-then-now-eq0 t c =
    items_read c.args.tail c.args.slot c.args.left c.items.at c.args.items.now c.requires
    (subst (λ z. IsLeft c.args.left (exits_within c.args.tail c.args.slot (trees_of (drop c.items.at c.args.items.now)))
    (list_count c.args.slot (trees_of (drop c.items.at c.args.items.now))) (Some z)) c.if-now-eq0.true c.items.invariant.1)

pub behind_items-behind_item-requires : goal.behind_items-behind_item-requires
behind_items-behind_item-requires t c =
    let l = c.items.invariant.0 in
    let k : c.items.at - 1 < length c.args.items.now = omega (arith, c.items-test.true, l) in
    let n = item_there c.args.items.now (c.items.at - 1) c.index-items-place.result k c.index-items-place.is in (
      omega (arith, n, c.decreases),
      item_left c.args.tail c.args.slot c.args.left c.items.now c.items.at c.args.items.now c.index-items-place.result c.items-test.true l
          c.index-items-place.is c.requires c.items.invariant.1,
    )

pub behind_items-returns-in_default : goal.behind_items-returns-in_default
behind_items-returns-in_default t c =
    items_short c.args.tail c.args.slot (c.items.at - 1) c.args.items.now
    (items_next c.args.tail c.args.slot c.args.left c.items.now c.items.at _ c.args.items.now c.index-items-place.result c.is_at_tail-last.result None
    refl c.items-test.true c.items.invariant.0 c.index-items-place.is c.is_at_tail-last.ensures
    (subst (IsLeft c.items.now _ _) c.in_default.is c.behind_item.ensures) c.items.invariant.1)

pub behind_items-items-preserved : goal.behind_items-items-preserved
behind_items-items-preserved t c =
    let l = c.items.invariant.0 in (
      omega (arith, l),
      items_next c.args.tail c.args.slot c.args.left c.items.now c.items.at _ c.args.items.now c.index-items-place.result c.is_at_tail-last.result
          (Some c.in-Some.rest) refl c.items-test.true l c.index-items-place.is c.is_at_tail-last.ensures
          (subst (IsLeft c.items.now _ _) c.in-Some.is c.behind_item.ensures) c.items.invariant.1,
    )

pub behind_items-returns : goal.behind_items-returns
behind_items-returns t c =
    let z : c.items.at ≡ 0 = omega (arith, c.items-test.false) in
    subst (λ z. IsLeft c.args.left (exits_within c.args.tail c.args.slot (trees_of (drop z c.args.items.now)))
    (list_count c.args.slot (trees_of (drop z c.args.items.now))) (Some c.items.now)) z c.items.invariant.1

pub behind_sections-sections-init : goal.behind_sections-sections-init
behind_sections-sections-init t c = (omega arith, sections_none c.args.slot c.args.left _ c.args.sections.now refl)

pub behind_sections-returns-then-now-eq0 : goal.behind_sections-returns-then-now-eq0
behind_sections-returns-then-now-eq0 t c =
    sections_read c.args.slot c.args.left c.sections.at c.args.sections.now c.requires
    (subst (λ z. IsLeft c.args.left (checks_within c.args.slot (sections_of (drop c.sections.at c.args.sections.now)))
    (sections_count c.args.slot (sections_of (drop c.sections.at c.args.sections.now))) (Some z)) c.if-now-eq0.true c.sections.invariant.1)

pub behind_sections-behind_list-requires : goal.behind_sections-behind_list-requires
behind_sections-behind_list-requires t c =
    let l = c.sections.invariant.0 in
    let cs = c.args.sections.now in
    let k : c.sections.at - 1 < length cs = omega (arith, c.sections-test.true, l) in
    let e = c.index-sections-place.is in
    let q = ap (λ (s : Section). trees_of (list_of s)) e in
    let n = section_there cs (c.sections.at - 1) c.index-sections-place.result k e in
    let m = section_left c.args.slot c.args.left c.sections.now c.sections.at cs c.index-sections-place.result c.sections-test.true l e c.requires
    c.sections.invariant.1 in
    (omega (arith, n, ap items q, c.decreases), omega (arith, m, ap (list_count c.args.slot) q))

pub behind_sections-returns-in_default : goal.behind_sections-returns-in_default
behind_sections-returns-in_default t c =
    sections_short c.args.slot (c.sections.at - 1) c.args.sections.now
    (sections_next c.args.slot c.args.left c.sections.now c.sections.at _ c.args.sections.now c.index-sections-place.result None
    refl c.sections-test.true c.sections.invariant.0 c.index-sections-place.is
    (subst (λ (s : Section). IsLeft c.sections.now (checks_in c.args.slot (trees_of (list_of s))) (list_count c.args.slot (trees_of (list_of s))) None)
    (sym c.index-sections-place.is) (subst (IsLeft c.sections.now _ _) c.in_default.is c.behind_list.ensures)) c.sections.invariant.1)

pub behind_sections-sections-preserved : goal.behind_sections-sections-preserved
behind_sections-sections-preserved t c =
    let l = c.sections.invariant.0 in (
      omega (arith, l),
      sections_next c.args.slot c.args.left c.sections.now c.sections.at _ c.args.sections.now c.index-sections-place.result (Some c.in-Some.rest)
          refl c.sections-test.true l c.index-sections-place.is
          (subst (λ (s : Section). IsLeft c.sections.now (checks_in c.args.slot (trees_of (list_of s))) (list_count c.args.slot (trees_of (list_of s)))
          (Some c.in-Some.rest)) (sym c.index-sections-place.is) (subst (IsLeft c.sections.now _ _) c.in-Some.is c.behind_list.ensures)) c.sections.invariant.1,
    )

pub behind_item-behind_both-requires : goal.behind_item-behind_both-requires
behind_item-behind_both-requires t c =
    let r = c.requires in
    let d = of_if c.args.item.now c.in-If.test c.in-If.a c.in-If.b c.in-If.is in
    let n = ap (item_count c.args.slot) (ap tree_at c.in-If.is ∙ at-If c.in-If.test c.in-If.a c.in-If.b) in
    let h = subst (IsLeft c.args.left _ _) c.in-Some.is c.behind_test.ensures in
    (omega (arith, d, c.decreases), omega (arith, r, n, h.1))

pub behind_item-behind_list-requires : goal.behind_item-behind_list-requires
behind_item-behind_list-requires t c =
    let r = c.requires in
    let d = of_while c.args.item.now c.in-While.test c.in-While.a c.in-While.is in
    let n = ap (item_count c.args.slot) (ap tree_at c.in-While.is ∙ at-While c.in-While.test c.in-While.a) in
    (omega (arith, d, c.decreases), omega (arith, r, n))

pub behind_item-behind_list-requires-in-Do : goal.behind_item-behind_list-requires-in-Do
behind_item-behind_list-requires-in-Do t c =
    let r = c.requires in
    let d = of_do c.args.item.now c.in-Do.test c.in-Do.a c.in-Do.is in
    let n = ap (item_count c.args.slot) (ap tree_at c.in-Do.is ∙ at-Do c.in-Do.a c.in-Do.test) in
    (omega (arith, d, c.decreases), omega (arith, r, n))

pub behind_item-behind_list-requires-in-For : goal.behind_item-behind_list-requires-in-For
behind_item-behind_list-requires-in-For t c =
    let r = c.requires in
    let d = of_for c.args.item.now c.in-For.first c.in-For.test c.in-For.third c.in-For.a c.in-For.is in
    let n = ap (item_count c.args.slot) (ap tree_at c.in-For.is ∙ at-For c.in-For.first c.in-For.test c.in-For.third c.in-For.a) in
    (omega (arith, d, c.decreases), omega (arith, r, n))

pub behind_item-behind_sections-requires : goal.behind_item-behind_sections-requires
behind_item-behind_sections-requires t c =
    let r = c.requires in
    let cs = c.in-Switch.sections in
    let d = of_switch c.args.item.now c.in-Switch.selector cs c.in-Switch.is in
    let n = ap (item_count c.args.slot) (ap tree_at c.in-Switch.is ∙ at-Switch c.in-Switch.selector cs) in
    let e = ap sections_of c.as_slice.ensures.value in
    (omega (arith, d, ap items_in e, c.decreases), omega (arith, r, n, ap (sections_count c.args.slot) e))

pub behind_item-behind_list-requires-in-Block : goal.behind_item-behind_list-requires-in-Block
behind_item-behind_list-requires-in-Block t c =
    let r = c.requires in
    let d = of_block c.args.item.now c.in-Block.a c.in-Block.is in
    let n = ap (item_count c.args.slot) (ap tree_at c.in-Block.is ∙ at-Block c.in-Block.a) in
    (omega (arith, d, c.decreases), omega (arith, r, n))

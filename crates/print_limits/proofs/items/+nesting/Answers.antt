use Rattle.std.proofs.Common.{◌≡◌, ◌+◌, max, refl, sym, ap, ◌∙◌, true≢false, arith}
use Rattle.c_tree.specs.Paths.{list_of}
use Rattle.c_tree.specs.TestTrees.{test_tree}
use Rattle.c_tree.specs.Trees.{tree_of, trees_of}
use Rattle.c_tree.proofs.TreeLaws.{tree-If}
use Rattle.c_tree.specs.declared.tree.Section.{Section}
use Rattle.c_resolved_defs.specs.PrintableStatements.{depth, depth_of, depth_in}
use Rattle.c_tree.specs.Views.{tree_at}
use Rattle.c_tree.proofs.Views.{view_laws}
use Rattle.print_limits.proofs.Measures.{depth_if, item_passed, item_stopped, items_ended, section_passed, section_stopped, sections_ended}
use Rattle.print_limits.proofs.items.+nesting.Goals as goal

pub are_nested-returns-then-not-is_nested : goal.are_nested-returns-then-not-is_nested
are_nested-returns-then-not-is_nested t c =
    item_stopped depth depth_of refl (λ x a. refl) c.args.room c.args.items.now c.loop-i.i c.index-items-i.result c.loop-i-test.true
    c.index-items-i.is (λ f. true≢false (sym (c.is_nested.ensures.1 f) ∙ c.if-not-is_nested.true)) c.loop-i.invariant

pub are_nested-loop-i-preserved : goal.are_nested-loop-i-preserved
are_nested-loop-i-preserved t c =
    item_passed depth depth_of refl (λ x a. refl) c.args.room c.args.items.now c.loop-i.i c.index-items-i.result c.loop-i-test.true c.index-items-i.is
    (c.is_nested.ensures.0 c.if-not-is_nested.false) c.loop-i.invariant

pub are_nested-returns : goal.are_nested-returns
are_nested-returns t c = items_ended depth depth_of refl (λ x a. refl) c.args.room c.args.items.now c.loop-i.i (omega (arith, c.loop-i-test.false))
    c.loop-i.invariant

pub is_nested-returns-else-list_fits : goal.is_nested-returns-else-list_fits
is_nested-returns-else-list_fits t c =
    let e : depth_of (tree_at c.args.item.now) ≡ max (depth (trees_of c.in-If.a)) (depth (trees_of c.in-If.b)) + 1 =
    ap depth_of (sym (view_laws.same c.args.item.now) ∙ ap tree_of c.in-If.is ∙ tree-If c.in-If.field-0 c.in-If.a c.in-If.b) ∙
    depth_if (test_tree c.in-If.field-0) (trees_of c.in-If.a) (trees_of c.in-If.b) in
    ((λ h. absurd (true≢false (sym h ∙ c.if-list_fits.false))), λ h. c.list_fits.ensures.1 (omega (arith, e, h)))

pub sections_fit-returns-then-not-is_nested_section : goal.sections_fit-returns-then-not-is_nested_section
sections_fit-returns-then-not-is_nested_section t c =
    section_stopped depth_in (λ (s : Section). depth (trees_of (list_of s))) refl (λ s d. refl) c.args.room c.args.sections.now c.loop-i.i
    c.index-sections-i.result c.loop-i-test.true c.index-sections-i.is
    (λ f. true≢false (sym (c.is_nested_section.ensures.1 f) ∙ c.if-not-is_nested_section.true)) c.loop-i.invariant

pub sections_fit-loop-i-preserved : goal.sections_fit-loop-i-preserved
sections_fit-loop-i-preserved t c =
    section_passed depth_in (λ (s : Section). depth (trees_of (list_of s))) refl (λ s d. refl) c.args.room c.args.sections.now c.loop-i.i
    c.index-sections-i.result c.loop-i-test.true c.index-sections-i.is
    (c.is_nested_section.ensures.0 c.if-not-is_nested_section.false) c.loop-i.invariant

pub sections_fit-returns : goal.sections_fit-returns
sections_fit-returns t c = sections_ended depth_in (λ (s : Section). depth (trees_of (list_of s))) refl (λ s d. refl) c.args.room c.args.sections.now
    c.loop-i.i (omega (arith, c.loop-i-test.false)) c.loop-i.invariant

use Rattle.std.proofs.Common.{◌≡◌, max, refl, sym, ◌∙◌, true≢false, arith}
use Rattle.c_tree.specs.declared.tree.Section.{Section}
use Rattle.c_tree.specs.Trees.{Sections}
use Rattle.c_resolved_defs.specs.Limits.{most_counted, most_counted_of, most_counted_in}
use Rattle.c_resolved_defs.specs.PrintableStatements.{most}
use Rattle.c_tree.specs.Views.{before}
use Rattle.print_limits.specs.Limits.{section_most}
use Rattle.print_limits.proofs.Measures.{item_passed, item_stopped, items_ended, section_passed, section_stopped, sections_ended}
use Rattle.print_limits.proofs.counted.+measuring.Goals as goal

more : (s : Section) (d : Sections) → most_counted_in (before s d) ≡ max (section_most s) (most_counted_in d)
more s d = omega arith

pub are_short_items-returns-then-not-is_short_item : goal.are_short_items-returns-then-not-is_short_item
are_short_items-returns-then-not-is_short_item t c =
    item_stopped most_counted most_counted_of refl (λ x a. refl) most c.args.items.now c.loop-i.i c.index-items-i.result c.loop-i-test.true
    c.index-items-i.is (λ f. true≢false (sym (c.is_short_item.ensures.1 f) ∙ c.if-not-is_short_item.true)) c.loop-i.invariant

pub are_short_items-loop-i-preserved : goal.are_short_items-loop-i-preserved
are_short_items-loop-i-preserved t c =
    item_passed most_counted most_counted_of refl (λ x a. refl) most c.args.items.now c.loop-i.i c.index-items-i.result c.loop-i-test.true
    c.index-items-i.is (c.is_short_item.ensures.0 c.if-not-is_short_item.false) c.loop-i.invariant

pub are_short_items-returns : goal.are_short_items-returns
are_short_items-returns t c = items_ended most_counted most_counted_of refl (λ x a. refl) most c.args.items.now c.loop-i.i
    (omega (arith, c.loop-i-test.false)) c.loop-i.invariant

pub are_short_sections-returns-then-not-is_short_section : goal.are_short_sections-returns-then-not-is_short_section
are_short_sections-returns-then-not-is_short_section t c =
    section_stopped most_counted_in section_most refl more most c.args.sections.now c.loop-i.i c.index-sections-i.result c.loop-i-test.true
    c.index-sections-i.is
    (λ f. true≢false (sym (c.is_short_section.ensures.1 f) ∙ c.if-not-is_short_section.true)) c.loop-i.invariant

pub are_short_sections-loop-i-preserved : goal.are_short_sections-loop-i-preserved
are_short_sections-loop-i-preserved t c =
    section_passed most_counted_in section_most refl more most c.args.sections.now c.loop-i.i c.index-sections-i.result c.loop-i-test.true c.index-sections-i.is
    (c.is_short_section.ensures.0 c.if-not-is_short_section.false) c.loop-i.invariant

pub are_short_sections-returns : goal.are_short_sections-returns
are_short_sections-returns t c = sections_ended most_counted_in section_most refl more most c.args.sections.now c.loop-i.i
    (omega (arith, c.loop-i-test.false)) c.loop-i.invariant

use Rattle.std.proofs.Common.{◌+◌, sym, ap, ◌∙◌, arith}
use Rattle.c_tree.specs.Paths.{list_of}
use Rattle.c_tree.specs.Trees.{trees_of}
use Rattle.flat_questions.specs.Reading.{is_flagged}
use Rattle.c_resolved_laws.specs.Counts.{summed}
use Rattle.flat_form.specs.Given.{given}
use Rattle.flat_form.proofs.Totals.{summed_more, summed_end, summed_more_in, summed_end_in}
use Rattle.flat_form.proofs.made.+making.Goals as goal

pub add_items-loop-i-preserved : goal.add_items-loop-i-preserved
add_items-loop-i-preserved t c =
    let named = is_flagged c.args.named.now in
    let m = summed_more (given c.args.what named) named c.args.in_jumpy c.args.items.now c.loop-i.i c.index-items-i.result c.loop-i-test.true
    c.index-items-i.is in
    let n = c.in_ok-add_item.ensures in
    let i = c.loop-i.invariant in
    omega arith

pub add_items-returns : goal.add_items-returns
add_items-returns t c =
    let named = is_flagged c.args.named.now in
    let m = summed_end (given c.args.what named) named c.args.in_jumpy c.args.items.now c.loop-i.i c.loop-i-test.false in
    let i = c.loop-i.invariant in
    omega arith

pub add_sections-loop-i-preserved : goal.add_sections-loop-i-preserved
add_sections-loop-i-preserved t c =
    let named = is_flagged c.args.named.now in
    let s = c.index-sections-i.result in
    let m = summed_more_in (given c.args.what named) named c.args.in_jumpy c.args.sections.now c.loop-i.i s c.loop-i-test.true c.index-sections-i.is in
    let n = c.in_ok-add_list.ensures ∙ ap (λ z. c.loop-i.count + summed (given c.args.what named) named c.args.in_jumpy (trees_of (list_of z)))
    (sym c.index-sections-i.is) in
    let i = c.loop-i.invariant in
    omega arith

pub add_sections-returns : goal.add_sections-returns
add_sections-returns t c =
    let named = is_flagged c.args.named.now in
    let m = summed_end_in (given c.args.what named) named c.args.in_jumpy c.args.sections.now c.loop-i.i c.loop-i-test.false in
    let i = c.loop-i.invariant in
    omega arith

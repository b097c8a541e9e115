use Rattle.std.proofs.Common.{arith}
use Rattle.c_resolved_laws.specs.Bounds.{most_gotos, most_labels}
use Rattle.flat_form.proofs.MostLaws.{entries_more, entries_end, ends_more, ends_end}
use Rattle.flat_form.proofs.Totals.{total_more, total_end, total_more_in, total_end_in}
use Rattle.flat_form.proofs.most.+most.Goals as goal

pub add_items-loop-i-preserved : goal.add_items-loop-i-preserved
add_items-loop-i-preserved t c =
    let m = total_more most_gotos c.args.items.now c.loop-i.i c.index-items-i.result c.loop-i-test.true c.index-items-i.is in
    let n = total_more most_labels c.args.items.now c.loop-i.i c.index-items-i.result c.loop-i-test.true c.index-items-i.is in
    let a = c.in_ok-add_item.ensures.gotos in
    let b = c.in_ok-add_item.ensures.labels in
    let i = c.loop-i.invariant.0 in
    let j = c.loop-i.invariant.1 in
    (omega arith, omega arith)

pub add_items-returns-clause-gotos : goal.add_items-returns-clause-gotos
add_items-returns-clause-gotos t c =
    let m = total_end most_gotos c.args.items.now c.loop-i.i c.loop-i-test.false in
    let i = c.loop-i.invariant.0 in
    omega arith

pub add_items-returns-clause-labels : goal.add_items-returns-clause-labels
add_items-returns-clause-labels t c =
    let m = total_end most_labels c.args.items.now c.loop-i.i c.loop-i-test.false in
    let i = c.loop-i.invariant.1 in
    omega arith

pub add_sections-loop-i-preserved : goal.add_sections-loop-i-preserved
add_sections-loop-i-preserved t c =
    let s = c.index-sections-i.result in
    let e = entries_more c.args.sections.now c.loop-i.i s c.loop-i-test.true c.index-sections-i.is in
    let f = ends_more c.args.sections.now c.loop-i.i s c.loop-i-test.true c.index-sections-i.is in
    let m = total_more_in most_gotos c.args.sections.now c.loop-i.i s c.loop-i-test.true c.index-sections-i.is in
    let n = total_more_in most_labels c.args.sections.now c.loop-i.i s c.loop-i-test.true c.index-sections-i.is in
    let a = c.in_ok-add_entries.ensures.gotos in
    let b = c.in_ok-add_entries.ensures.labels in
    let g = c.in_ok-add_list.ensures.gotos in
    let h = c.in_ok-add_list.ensures.labels in
    let i = c.loop-i.invariant.0 in
    let j = c.loop-i.invariant.1 in
    (omega arith, omega arith)

pub add_sections-returns-clause-gotos : goal.add_sections-returns-clause-gotos
add_sections-returns-clause-gotos t c =
    let e = entries_end c.args.sections.now c.loop-i.i c.loop-i-test.false in
    let f = ends_end c.args.sections.now c.loop-i.i c.loop-i-test.false in
    let m = total_end_in most_gotos c.args.sections.now c.loop-i.i c.loop-i-test.false in
    let i = c.loop-i.invariant.0 in
    omega arith

pub add_sections-returns-clause-labels : goal.add_sections-returns-clause-labels
add_sections-returns-clause-labels t c =
    let e = entries_end c.args.sections.now c.loop-i.i c.loop-i-test.false in
    let m = total_end_in most_labels c.args.sections.now c.loop-i.i c.loop-i-test.false in
    let i = c.loop-i.invariant.1 in
    omega arith

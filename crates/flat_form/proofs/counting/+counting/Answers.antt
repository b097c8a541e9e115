use Rattle.std.proofs.Common.{◌+◌, sym, ap, ◌∙◌, arith}
use Rattle.c_tree.specs.Paths.{list_of}
use Rattle.c_tree.specs.Trees.{trees_of}
use Rattle.c_tree.specs.Everywhere.{total}
use Rattle.c_resolved_laws.specs.Counts.{goto_of}
use Rattle.flat_form.proofs.Totals.{total_more, total_end, total_more_in, total_end_in}
use Rattle.flat_form.proofs.counting.+counting.Goals as goal

pub add_items-loop-i-preserved : goal.add_items-loop-i-preserved
add_items-loop-i-preserved t c =
    let m = total_more goto_of c.args.items.now c.loop-i.i c.index-items-i.result c.loop-i-test.true c.index-items-i.is in
    let n = c.in_ok-add_item.ensures in
    let i = c.loop-i.invariant in
    omega arith

pub add_items-returns : goal.add_items-returns
add_items-returns t c =
    let m = total_end goto_of c.args.items.now c.loop-i.i c.loop-i-test.false in
    let i = c.loop-i.invariant in
    omega arith

pub add_sections-loop-i-preserved : goal.add_sections-loop-i-preserved
add_sections-loop-i-preserved t c =
    let s = c.index-sections-i.result in
    let m = total_more_in goto_of c.args.sections.now c.loop-i.i s c.loop-i-test.true c.index-sections-i.is in
    let n = c.in_ok-add_list.ensures ∙ ap (λ z. c.loop-i.count + total goto_of (trees_of (list_of z))) (sym c.index-sections-i.is) in
    let i = c.loop-i.invariant in
    omega arith

pub add_sections-returns : goal.add_sections-returns
add_sections-returns t c =
    let m = total_end_in goto_of c.args.sections.now c.loop-i.i c.loop-i-test.false in
    let i = c.loop-i.invariant in
    omega arith

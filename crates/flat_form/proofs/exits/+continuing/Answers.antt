use Rattle.std.proofs.Common.{◌+◌, sym, ap, ◌∙◌, arith}
use Rattle.c_tree.specs.Exits.{continues, continues_in}
use Rattle.c_tree.specs.Paths.{list_of}
use Rattle.c_tree.specs.Trees.{trees_of}
use Rattle.c_tree.proofs.Views.{trees-at, trees-end, sections-at, sections-end}
use Rattle.flat_form.proofs.exits.+continuing.Goals as goal

pub add_continues_among-loop-i-preserved : goal.add_continues_among-loop-i-preserved
add_continues_among-loop-i-preserved t c =
    let m = ap continues (trees-at c.args.items.now c.loop-i.i c.index-items-i.result c.loop-i-test.true c.index-items-i.is) in
    let n = c.in_ok-add_continues_of.ensures in
    let i = c.loop-i.invariant in
    omega arith

pub add_continues_among-returns : goal.add_continues_among-returns
add_continues_among-returns t c =
    let m = ap continues (trees-end c.args.items.now c.loop-i.i c.loop-i-test.false) in
    let i = c.loop-i.invariant in
    omega arith

pub add_continues_in-loop-i-preserved : goal.add_continues_in-loop-i-preserved
add_continues_in-loop-i-preserved t c =
    let s = c.index-sections-i.result in
    let m = ap continues_in (sections-at c.args.sections.now c.loop-i.i s c.loop-i-test.true c.index-sections-i.is) in
    let n = c.in_ok-add_continues.ensures ∙ ap (λ z. c.loop-i.count + continues (trees_of (list_of z))) (sym c.index-sections-i.is) in
    let i = c.loop-i.invariant in
    omega arith

pub add_continues_in-returns : goal.add_continues_in-returns
add_continues_in-returns t c =
    let m = ap continues_in (sections-end c.args.sections.now c.loop-i.i c.loop-i-test.false) in
    let i = c.loop-i.invariant in
    omega arith

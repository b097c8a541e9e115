use Rattle.std.proofs.Common.{ap, arith}
use Rattle.c_tree.specs.Exits.{breaks}
use Rattle.c_tree.proofs.Views.{trees-at, trees-end}
use Rattle.flat_form.proofs.exits.+breaking.Goals as goal

pub add_breaks_among-loop-i-preserved : goal.add_breaks_among-loop-i-preserved
add_breaks_among-loop-i-preserved t c =
    let m = ap breaks (trees-at c.args.items.now c.loop-i.i c.index-items-i.result c.loop-i-test.true c.index-items-i.is) in
    let n = c.in_ok-add_breaks_of.ensures in
    let i = c.loop-i.invariant in
    omega arith

pub add_breaks_among-returns : goal.add_breaks_among-returns
add_breaks_among-returns t c =
    let m = ap breaks (trees-end c.args.items.now c.loop-i.i c.loop-i-test.false) in
    let i = c.loop-i.invariant in
    omega arith

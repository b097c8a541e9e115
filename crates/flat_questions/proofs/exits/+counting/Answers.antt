use Rattle.std.proofs.Common.{◌≡◌, ◌+◌, min, drop, arith, ap, ◌∙◌}
use Rattle.c_tree.specs.Exits.{breaks}
use Rattle.c_tree.specs.Trees.{trees_of}
use Rattle.c_tree.proofs.Views.{trees-at, trees-end}
use Rattle.flat_questions.proofs.exits.+counting.Goals as goal

pub count_among-loop-i-preserved : goal.count_among-loop-i-preserved
count_among-loop-i-preserved t c =
    let xs = c.args.items.now in
    let i = c.loop-i.i in
    let n = breaks (trees_of (drop (i + 1) xs)) in
    let e = ap breaks (trees-at xs i c.index-items-i.result c.loop-i-test.true c.index-items-i.is) in
    let q = c.count_in-sum.ensures in
    let k : min (c.count_in-sum.result + n) 2 ≡ min (c.loop-i.sum + breaks (trees_of (drop i xs))) 2 = omega (arith, e, q) in
    record { stops = omega (arith, q); same = k ∙ c.loop-i.invariant.same }

pub count_among-returns : goal.count_among-returns
count_among-returns t c =
    let e = ap breaks (trees-end c.args.items.now c.loop-i.i c.loop-i-test.false) in
    let s = c.loop-i.invariant.stops in
    let k = c.loop-i.invariant.same in
    omega (arith, e, s, k)

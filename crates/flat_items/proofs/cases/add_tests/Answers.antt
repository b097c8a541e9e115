use Rattle.std.proofs.Common.{drop, ◌+◌, sym, ap, ◌∙◌}
use Rattle.c_tree.specs.Trees.{trees_of, join}
use Rattle.c_tree.proofs.TreeLaws.{join-nil}
use Rattle.flat_items.proofs.cases.add_tests.Goals as goal
use Rattle.flat_items.proofs.Joining.{joined}
use Rattle.flat_items.specs.Plans.{number_label}
use Rattle.flat_items.specs.Pieces.{number_tests}
use Rattle.flat_items.proofs.Tests.{numbers_more, numbers_end}

pub loop-i-preserved : goal.loop-i-preserved
loop-i-preserved c =
    let k = c.args.cases.now.kind in
    let label = number_label c.args.plan.now c.args.cases.now in
    let out = trees_of c.loop-i.out in
    let rest = number_tests k c.args.variable label (drop (c.loop-i.i + 1) c.args.numbers.now) in
    ap (λ z. join z rest) c.in_ok-add_test.ensures ∙ joined out _ rest
    ∙ ap (join out) (sym (numbers_more k c.args.variable label c.args.numbers.now c.loop-i.i _ c.loop-i-test.true)) ∙ c.loop-i.invariant

pub returns : goal.returns
returns c =
    let label = number_label c.args.plan.now c.args.cases.now in
    sym (join-nil (trees_of c.loop-i.out)) ∙ ap (join (trees_of c.loop-i.out))
    (sym (numbers_end c.args.cases.now.kind c.args.variable label c.args.numbers.now c.loop-i.i c.loop-i-test.false)) ∙ c.loop-i.invariant

use Rattle.std.proofs.Common.{ap, arith}
use Rattle.c_tree.specs.TestTrees.{test_tree}
use Rattle.tidy_laws.specs.Mentions.{test_lacks}
use Rattle.tidy_slots.specs.Counts.{one_if, test_count}
use Rattle.tidy_slots.proofs.CountLemmas.{none_test}
use Rattle.tidy_loops.proofs.LeftOver.{some_named, none_named, left_none, left_one}
use Rattle.tidy_loops.proofs.remaining.behind_test.Goals as goal

pub returns-then-check : goal.returns-then-check
returns-then-check c =
    left_one c.args.left c.saturating_sub.result _ _ (ap one_if c.if-check.true) (c.requires.check c.if-check.true) c.requires.within c.saturating_sub.ensures

pub returns-then-test_names : goal.returns-then-test_names
returns-then-test_names c =
    let t = test_tree c.args.test.now in
    let z = ap one_if c.if-check.false in
    let n = some_named (test_count c.args.slot t) c.test_names.result (test_lacks c.args.slot t) c.test_names.ensures (none_test c.args.slot t)
    c.if-test_names.true in
    omega (arith, z, n)

pub returns : goal.returns
returns c =
    let t = test_tree c.args.test.now in
    left_none c.args.left _ (test_count c.args.slot t) (ap one_if c.if-check.false)
    (none_named (test_count c.args.slot t) c.test_names.result (test_lacks c.args.slot t) c.test_names.ensures (none_test c.args.slot t) c.if-test_names.false)

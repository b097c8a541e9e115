use Rattle.c_tree.specs.declared.tree.Test.{Source, On, Off, AndOff, OrOn}
use Rattle.c_tree.proofs.ExpressionLaws.{test-Source, test-On, test-Off, test-AndOff, test-OrOn}
use Rattle.tidy_slots.proofs.AddedLemmas.{none_added, by_test, none_test, test_got}
use Rattle.tidy_slots.proofs.count_items.+count_test.Goals as goal

pub returns-in-Source : goal.returns-in-Source
returns-in-Source t c = by_test c.count_expression.result c.args.counts.now c.count_expression.new.counts c.args.test.now (Source c.in-Source.e)
    _ c.in-Source.is (test-Source c.in-Source.e) c.count_expression.ensures

pub returns-in-On : goal.returns-in-On
returns-in-On t c = none_test c.args.counts.now c.args.test.now (On c.in-On.field-0) _ c.in-On.is (test-On c.in-On.field-0) (none_added c.args.counts.now)

pub returns-in-Off : goal.returns-in-Off
returns-in-Off t c = none_test c.args.counts.now c.args.test.now (Off c.in-Off.field-0) _ c.in-Off.is (test-Off c.in-Off.field-0) (none_added c.args.counts.now)

pub returns-in-AndOff : goal.returns-in-AndOff
returns-in-AndOff t c =
    by_test c.count_test.result c.args.counts.now c.count_test.new.counts c.args.test.now (AndOff c.in-AndOff.field-0 c.in-AndOff.rest)
    _ c.in-AndOff.is (test-AndOff c.in-AndOff.field-0 c.in-AndOff.rest)
    (test_got c.count_test.result _ _ c.get.result.now c.in-AndOff.rest c.get.ensures c.count_test.ensures)

pub returns-in-OrOn : goal.returns-in-OrOn
returns-in-OrOn t c =
    by_test c.count_test-in-OrOn.result c.args.counts.now c.count_test-in-OrOn.new.counts c.args.test.now (OrOn c.in-OrOn.field-0 c.in-OrOn.rest)
    _ c.in-OrOn.is (test-OrOn c.in-OrOn.field-0 c.in-OrOn.rest)
    (test_got c.count_test-in-OrOn.result _ _ c.get-in-OrOn.result.now c.in-OrOn.rest c.get-in-OrOn.ensures c.count_test-in-OrOn.ensures)

use Rattle.tidy_slots.proofs.AddedLemmas.{begun, went_on, all_added, each_at, each_end}
use Rattle.tidy_slots.proofs.count_items.count_each.Goals as goal

pub loop-i-init : goal.loop-i-init
loop-i-init c = begun c.args.counts.now _

pub loop-i-preserved : goal.loop-i-preserved
loop-i-preserved c =
    went_on c.args.counts.now _ c.loop-i.counts c.count_expression.new.counts
    _ _ _ (each_at c.args.items.now c.loop-i.i c.index-items-i.result c.loop-i-test.true c.index-items-i.is) c.in_ok-count_expression.ensures
    c.loop-i.invariant

pub returns : goal.returns
returns c = all_added c.args.counts.now _ c.loop-i.counts _ (each_end c.args.items.now c.loop-i.i c.loop-i-test.false) c.loop-i.invariant

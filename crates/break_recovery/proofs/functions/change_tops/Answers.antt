use Rattle.std.proofs.Common.{◌≡◌, ◌+◌, suc, slice_set, refl, arith}
use Rattle.break_recovery.proofs.Chains.{none_done, one_done, all_done}
use Rattle.break_recovery.proofs.functions.change_tops.Goals as goal

pub loop-i-init : goal.loop-i-init
loop-i-init c = none_done c.args.tops.now

pub loop-i-preserved : goal.loop-i-preserved
loop-i-preserved c =
    let more : c.loop-i.i + 1 ≡ suc c.loop-i.i = omega arith in
    one_done c.loop-i.i c.loop-i.count c.in_ok-more.more (c.loop-i.i + 1) c.in_ok-count.count c.args.tops.now c.loop-i.tops
    (slice_set c.loop-i.tops c.loop-i.i c.change_top.new.top) c.at_mut.result.now c.change_top.new.top
    c.at_mut.ensures.value c.in_ok-more.ensures refl c.in_ok-count.ensures more c.loop-i.invariant

pub returns : goal.returns
returns c = all_done c.loop-i.i c.loop-i.count c.args.tops.now c.loop-i.tops (omega (arith, c.loop-i-test.false, c.len.ensures.value)) c.loop-i.invariant

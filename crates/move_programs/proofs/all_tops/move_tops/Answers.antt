use Rattle.std.proofs.Common.{◌≡◌, ◌+◌, suc, slice_set, subst, arith}
use Rattle.move_programs.proofs.Tops.{AreMovedTo, starts, one_more, all_moved}
use Rattle.move_programs.proofs.all_tops.move_tops.Goals as goal

pub loop-i-init : goal.loop-i-init
loop-i-init c = starts c.args.tops.now c.new-moves.result c.new-moves.ensures c.requires

pub loop-i-preserved : goal.loop-i-preserved
loop-i-preserved c =
    let more : suc c.loop-i.i ≡ c.loop-i.i + 1 = omega arith in
    subst (λ k. AreMovedTo k c.args.tops.now (slice_set c.loop-i.tops c.loop-i.i c.move_top.new.top) c.append.new.moves) more
    (one_more c.loop-i.i c.args.tops.now c.loop-i.tops c.loop-i.moves c.in_ok-more.more c.append.new.moves c.at_mut.result.now c.move_top.new.top
    c.at_mut.ensures.value c.in_ok-more.ensures c.in_ok-append.ensures c.loop-i.invariant)

pub returns : goal.returns
returns c = all_moved c.loop-i.i c.args.tops.now c.loop-i.tops c.loop-i.moves (omega (arith, c.loop-i-test.false, c.len.ensures.value)) c.loop-i.invariant

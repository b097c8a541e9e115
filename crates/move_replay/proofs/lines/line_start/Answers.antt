use Rattle.std.proofs.Common.{arith}
use Rattle.move_replay.proofs.Bytes.{passed, at_end}
use Rattle.move_replay.proofs.lines.line_start.Goals as goal

pub loop-i-preserved : goal.loop-i-preserved
loop-i-preserved c = passed c.args.text.now c.args.number c.loop-i.i c.loop-i.left c.ends_left-left.result 0 c.loop-i-test.true
    (omega (arith, c.if-left-eq0.false)) c.ends_left-left.ensures c.loop-i.invariant

pub returns : goal.returns
returns c = at_end c.args.text.now c.args.number c.loop-i.i c.loop-i.left (omega (arith, c.loop-i-test.false, c.loop-i.auto.i-end))
    (omega (arith, c.loop-i-test.false)) c.loop-i.invariant

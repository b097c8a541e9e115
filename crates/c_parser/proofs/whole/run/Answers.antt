use Rattle.std.proofs.Common.{sym, ◌∙◌, Some, None, arith}
use Rattle.c_parser.proofs.Runs.{stops_unexpected, stops_over, stops_at_end, stops_over_at_end, left_at_end, stops_without_file}
use Rattle.c_parser.proofs.whole.run.Goals as goal

pub returns-in-None : goal.returns-in-None
returns-in-None c =
    stops_unexpected c.args.text.now c.args.tokens.now c.loop-i.stack c.loop-i.count c.loop-i.i _ _ (omega arith) c.class_of-class.ensures
    c.loop-i.invariant.same
    _ c.step.new.stack c.in_ok-step.ensures c.in-None.is _ c.refused.ensures

pub returns-then-is_over : goal.returns-then-is_over
returns-then-is_over c =
    stops_over c.args.text.now c.args.tokens.now c.loop-i.stack c.loop-i.count c.loop-i.i _ _ (omega arith) c.class_of-class.ensures c.loop-i.invariant.same
    _ c.step.new.stack c.in_ok-step.ensures c.in-Some.load c.in-Some.is (sym c.is_over.ensures ∙ c.if-is_over.true) _ c.refused-then-is_over.ensures

pub returns-then-is_over-2 : goal.returns-then-is_over-2
returns-then-is_over-2 c =
    stops_over_at_end c.args.text.now c.args.tokens.now c.loop-i.stack c.loop-i.count c.loop-i.i (omega arith) c.loop-i.invariant.same
    _ c.step-2.new.stack c.in_ok-step-2.ensures c.in-Some-2.load c.in-Some-2.is (sym c.is_over-in-Some-2.ensures ∙ c.if-is_over-2.true)
    _ c.refused-then-is_over-2.ensures

pub returns-in-None-2 : goal.returns-in-None-2
returns-in-None-2 c =
    stops_at_end c.args.text.now c.args.tokens.now c.loop-i.stack c.loop-i.count c.loop-i.i (omega arith) c.loop-i.invariant.same
    _ c.step-2.new.stack c.in_ok-step-2.ensures c.in-None-2.is _ c.refused-in-None-2.ensures

pub returns-in-Some-accepted : goal.returns-in-Some-accepted
returns-in-Some-accepted c =
    left_at_end c.args.text.now c.args.tokens.now c.loop-i.stack c.loop-i.count c.loop-i.i (omega arith) c.loop-i.invariant.same
    _ c.step-2.new.stack c.in_ok-step-2.ensures c.in-Some-2.load c.in-Some-2.is (sym c.is_over-in-Some-2.ensures ∙ c.if-is_over-2.false)
    (Some c.in-Some-accepted.whole) c.in-Some-accepted.ensures

pub returns-in-None-accepted : goal.returns-in-None-accepted
returns-in-None-accepted c =
    let left = left_at_end c.args.text.now c.args.tokens.now c.loop-i.stack c.loop-i.count c.loop-i.i (omega arith) c.loop-i.invariant.same
    _ c.step-2.new.stack c.in_ok-step-2.ensures c.in-Some-2.load c.in-Some-2.is (sym c.is_over-in-Some-2.ensures ∙ c.if-is_over-2.false) None
    c.in-None-accepted.ensures in
    stops_without_file c.args.text.now c.args.tokens.now left _ c.refused-in-None-accepted.ensures

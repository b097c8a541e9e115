use Rattle.std.proofs.Common.{sym, ◌∙◌}
use Rattle.flat_questions.specs.Reading.{is_flagged}
use Rattle.lower_items.proofs.Jumping.{bare_next, bare_no, bare_end}
use Rattle.lower_items.proofs.jumps.is_bare.Goals as goal

pub returns-then-not-is_gone : goal.returns-then-not-is_gone
returns-then-not-is_gone c =
    sym (c.loop-i.invariant ∙ bare_no (is_flagged c.args.named.now) c.args.items.now c.loop-i.i c.index-items-i.result c.loop-i-test.true
    c.index-items-i.is (sym c.is_gone.ensures ∙ c.if-not-is_gone.true))

pub loop-i-preserved : goal.loop-i-preserved
loop-i-preserved c =
    c.loop-i.invariant ∙ bare_next (is_flagged c.args.named.now) c.args.items.now c.loop-i.i c.index-items-i.result c.loop-i-test.true
    c.index-items-i.is (sym c.is_gone.ensures ∙ c.if-not-is_gone.false)

pub returns : goal.returns
returns c = sym (c.loop-i.invariant ∙ bare_end (is_flagged c.args.named.now) c.args.items.now c.loop-i.i c.loop-i-test.false)

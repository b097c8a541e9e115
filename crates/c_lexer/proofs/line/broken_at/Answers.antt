use Rattle.c_lexer.proofs.Tails.{one_more, all_passed, within}
use Rattle.c_lexer.proofs.line.broken_at.Goals as goal

pub loop-passed-preserved : goal.loop-passed-preserved
loop-passed-preserved c = one_more c.args.line.now c.loop-passed.passed c.onto-tail.result c.loop-passed.tail c.loop-passed-test.true
    c.loop-passed.invariant c.onto-tail.ensures

pub returns-clause-value : goal.returns-clause-value
returns-clause-value c = all_passed c.args.line.now c.loop-passed.passed c.loop-passed.tail c.loop-passed-test.false c.loop-passed.invariant

pub returns-clause-bound : goal.returns-clause-bound
returns-clause-bound c = within c.args.line.now c.loop-passed.tail.broken
    (all_passed c.args.line.now c.loop-passed.passed c.loop-passed.tail c.loop-passed-test.false c.loop-passed.invariant)

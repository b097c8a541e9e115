use Rattle.std.proofs.Common.{subst, arith, All}
use Rattle.std.proofs.lemmas.List.Elements.{All-more}
use Rattle.print_limits.proofs.Measures.{taken}
use Rattle.restructure_laws.specs.Replayed.{IsTopLeapless}
use Rattle.move_replay.proofs.all_moves.leap_left.Goals as goal

pub loop-i-preserved : goal.loop-i-preserved
loop-i-preserved c =
    All-more IsTopLeapless c.args.tops.now c.loop-i.i c.index-tops-i.result c.loop-i-test.true c.loop-i.invariant
    (subst IsTopLeapless c.index-tops-i.is (c.in_ok-leap_in_top.ensures.no c.if-branch.false))

pub returns-clause-no : goal.returns-clause-no
returns-clause-no c = λ e. subst (All IsTopLeapless) (taken c.args.tops.now c.loop-i.i (omega (arith, c.loop-i-test.false))) c.loop-i.invariant

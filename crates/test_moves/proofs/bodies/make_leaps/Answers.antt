use Rattle.std.proofs.lemmas.Result.{on_ok_weaker}
use Rattle.test_moves.proofs.Ready.{is_made}
use Rattle.test_moves.proofs.bodies.make_leaps.Goals as goal

pub returns : goal.returns
returns c = on_ok_weaker c.convert.result (is_made c.flatten.new.function c.convert.new.function (c.in_ok-flatten.ensures.convertible c.requires)
    c.if-not-function.false) c.convert.ensures.ok

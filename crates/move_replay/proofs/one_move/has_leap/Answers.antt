use Rattle.std.proofs.Common.{subst, IsTrue, IsFalse}
use Rattle.move_replay.proofs.Leaping.{leap_yes, leap_no}
use Rattle.move_replay.proofs.one_move.has_leap.Goals as goal

pub returns-clause-yes : goal.returns-clause-yes
returns-clause-yes c = λ h. leap_yes c.args.body.now c.in_ok-found.found c.in_ok-found.ensures (subst IsTrue c.is_some.ensures h)

pub returns-clause-no : goal.returns-clause-no
returns-clause-no c = λ h. leap_no c.args.body.now c.requires c.in_ok-found.found c.in_ok-found.ensures (subst IsFalse c.is_some.ensures h)

use Rattle.std.proofs.Common.{subst, IsTrue}
use Rattle.move_replay.proofs.Leaping.{leap_at_path}
use Rattle.move_replay.proofs.one_move.leads_to_leap.Goals as goal

pub returns-in-Some : goal.returns-in-Some
returns-in-Some c = λ h. leap_at_path c.args.function.now c.in-Some.body c.args.at.now c.label_at.result c.in-Some.is c.label_at.ensures
    (subst IsTrue c.is_some.ensures h)

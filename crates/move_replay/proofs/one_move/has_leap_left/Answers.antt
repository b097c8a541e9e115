use Rattle.move_replay.proofs.Leaping.{same_body}
use Rattle.move_replay.proofs.one_move.has_leap_left.Goals as goal

pub has_leap-requires : goal.has_leap-requires
has_leap-requires c = same_body c.args.function.now c.in-Some.body c.in-Some.is c.requires.flat c.requires.made

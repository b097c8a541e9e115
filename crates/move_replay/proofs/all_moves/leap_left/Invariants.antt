use Rattle.std.proofs.Common.{All, take}
use Rattle.restructure_laws.specs.Replayed.{IsTopLeapless}
use Rattle.move_replay.proofs.all_moves.leap_left.Given as goal

abbrev pub invariant-loop-i : goal.invariant-loop-i
invariant-loop-i l = All IsTopLeapless (take l.i l.tops)

use Rattle.std.proofs.Common.{All, take}
use Rattle.restructure_laws.specs.Lawful.{Moves}
use Rattle.restructure_laws.specs.Replayed.{IsTopWellMade}
use Rattle.move_replay.specs.Places.{Finds}
use Rattle.move_replay.specs.Steps.{IsLeaplessAt}
use Rattle.move_replay.proofs.all_moves.make_moves.Given as goal

abbrev pub invariant-loop-i : goal.invariant-loop-i
invariant-loop-i l = Moves l.initial.tops (take l.i l.moves) l.tops × All IsTopWellMade l.tops × Finds l.places l.tops × IsLeaplessAt l.known.leapless l.tops

use Rattle.std.proofs.Common.{◌≡◌, ◌-◌, ◌++◌, length, take, drop, map}
use Rattle.restructure_laws.specs.Replayed.{converted_top}
use Rattle.move_replay.proofs.all_moves.convert_tops.Given as goal

abbrev pub invariant-loop-i : goal.invariant-loop-i
invariant-loop-i l = l.tops ≡ map converted_top (take l.i l.initial.tops) ++ drop l.i l.initial.tops

abbrev pub decreases-loop-i : goal.decreases-loop-i
decreases-loop-i l = length l.tops - l.i

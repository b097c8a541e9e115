use Rattle.std.proofs.Common.{◌≡◌, vec_len}
use Rattle.outward_moves.proofs.sections.make_rooms.Given as goal

abbrev pub invariant-loop-i : goal.invariant-loop-i
invariant-loop-i l = vec_len l.rooms ≡ l._i

use Rattle.std.proofs.Common.{◌≡◌, pos, replicate}
use Rattle.step_memory.proofs.rooms.zeros.Given as goal

abbrev pub invariant-loop-at : goal.invariant-loop-at
invariant-loop-at l = l.cells ≡ replicate l._at (pos 0)

use Rattle.std.proofs.Common.{◌≡◌, ℕ, ◌<◌, ◌≤◌, length, slice_get, pos, Some}
use Rattle.step_memory.specs.Rooms.{KeptBelow}
use Rattle.step_memory.proofs.room.zero.Given as goal

abbrev pub invariant-loop-at : goal.invariant-loop-at
invariant-loop-at l = record {
  lengths : length l.cells ≡ length l.initial.cells;
  kept : KeptBelow l.from l.initial.cells l.cells;
  zero : (i : ℕ) → l.from ≤ i → i < l.at → slice_get l.cells i ≡ Some (pos 0);
}

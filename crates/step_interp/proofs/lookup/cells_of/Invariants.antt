use Rattle.std.proofs.Common.{◌≡◌, ◌≤◌, ◌+◌, ◌*◌, drop}
use Rattle.jump_meaning.specs.Code.{cells_of}
use Rattle.step_interp.proofs.lookup.cells_of.Given as goal

abbrev pub invariant-loop-slot : goal.invariant-loop-slot
invariant-loop-slot l = record {
  sum : l.cells + cells_of (drop l.slot-index l.slots) ≡ cells_of l.slots;
  bound : l.cells ≤ 4294967295 * l.slot-index;
}

use Rattle.std.proofs.Common.{◌≡◌, take}
use Rattle.c_copies.proofs.slots.copy_slots.Given as goal

abbrev pub invariant-loop-slot : goal.invariant-loop-slot
invariant-loop-slot l = l.out ≡ take l.slot-index l.slots

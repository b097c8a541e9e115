use Rattle.std.proofs.Common.{◌≡◌, ◌++◌, map, take}
use Rattle.step_memory.specs.Pages.{room_at_start}
use Rattle.step_memory.proofs.rooms.add_zero_rooms.Given as goal

abbrev pub invariant-loop-slot : goal.invariant-loop-slot
invariant-loop-slot l = l.rooms ≡ l.initial.rooms ++ map room_at_start (take l.slot-index l.slots)

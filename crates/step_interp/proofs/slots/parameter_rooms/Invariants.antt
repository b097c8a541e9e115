use Rattle.std.proofs.Common.{ℕ, List, ◌≡◌, length, drop}
use Rattle.jump_meaning.specs.Code.{function_tree}
use Rattle.jump_meaning.specs.World.{slot_at_start}
use Rattle.step_memory.specs.Rooms.{AreSlots}
use Rattle.step_memory.specs.Values.{values_of}
use Rattle.step_interp.proofs.slots.parameter_rooms.Given as goal

abbrev pub invariant-loop-slot : goal.invariant-loop-slot
invariant-loop-slot l = record {
  count : length l.rooms ≡ l.slot-index;
  slots : (ns : List (List ℕ)) → AreSlots ns l.rooms (slot_at_start (function_tree l.function) (values_of ns l.initial.arguments));
  arguments : (ns : List (List ℕ)) → values_of ns l.arguments ≡ drop l.slot-index (values_of ns l.initial.arguments);
}

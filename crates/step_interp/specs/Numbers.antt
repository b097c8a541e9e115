-- Numbers at the start of a call.
use Rattle.std.specs.Prelude.{◌≡◌, ℤ, None}
use Rattle.c_types.specs.Numbers.{converted}
use Rattle.c_tree.specs.declared.tree.Slot.{Slot}
use Rattle.step_memory.specs.declared.room.Room.{Room}
use Rattle.step_memory.specs.declared.room.Cells.TheVariants.{Number}

-- a number that is no array, converted
abbrev pub IsNumberRoom : Slot → ℤ → Room → Type 0
IsNumberRoom s z r = (s.cells ≡ None) × (r.kind ≡ s.kind) × (r.cells ≡ Number (converted s.kind z))

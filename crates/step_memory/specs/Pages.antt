-- The rooms of the slots of a call, of which some aren't made yet.
use Rattle.std.specs.Prelude.{ℕ, ◌≡◌, pos, List, [], ◌∷◌, ◌++◌, map, length, take, drop, replicate, Option, Some, None}
use Rattle.c_tree.specs.declared.tree.Slot.{Slot}
use Rattle.step_memory.specs.declared.room.Room.{Room}
use Rattle.step_memory.specs.declared.room.Cells.{Cells}
use Rattle.step_memory.specs.declared.room.Cells.TheVariants.{Number, Array}

-- the room of a slot at the start of a call: 0 everywhere
abbrev pub cells_at_start : Option ℕ → Cells
cells_at_start None = Number (pos 0)
cells_at_start (Some n) = Array (replicate n (pos 0))

abbrev pub room_at_start : Slot → Room
room_at_start s = record { kind = s.kind; cells = cells_at_start s.cells }

-- the rooms of a page; those of one that isn't made, the empty list, are as at the start of a call
abbrev pub page_shown : List Room → List Slot → List Room
page_shown [] ss = map room_at_start ss
page_shown (r ∷ rs) ss = r ∷ rs

-- the rooms of the slots, 64 to a page; a page that is missing at the end isn't made
abbrev pub shown : List (List Room) → List Slot → List Room
shown [] ss = map room_at_start ss
shown (p ∷ ps) ss = page_shown p (take 64 ss) ++ shown ps (drop 64 ss)

-- a page that is made has a room for each of its slots
abbrev pub IsPage : List Room → List Slot → Type 0
IsPage [] ss = Unit {0}
IsPage (r ∷ rs) ss = length (r ∷ rs) ≡ length ss

abbrev pub ArePages : List (List Room) → List Slot → Type 0
ArePages [] ss = Unit {0}
ArePages (p ∷ ps) ss = IsPage p (take 64 ss) × ArePages ps (drop 64 ss)

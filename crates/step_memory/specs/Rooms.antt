-- What a room of the machine is in the meaning: it agrees with a variable in the cells that it has.
use Rattle.std.specs.Prelude.{ℕ, ◌<◌, ◌≤◌, ℤ, pos, Bool, List, ◌≡◌, ◌≢◌, length, slice_get, slice_set, Some, None}
use Rattle.c_types.specs.declared.kinds.IntKind.{IntKind}
use Rattle.jump_meaning.specs.Values as Meant
use Rattle.jump_meaning.specs.Values.{Variable, Holds}
use Rattle.jump_meaning.specs.World.{kind_held, cells_held, number_held}
use Rattle.jump_meaning.specs.Calls.{is_array}
use Rattle.step_memory.specs.declared.room.Room.{Room}
use Rattle.step_memory.specs.declared.room.Cells.{Cells}
use Rattle.step_memory.specs.declared.room.Cells.TheVariants.{Number, Array, Lent}
use Rattle.step_memory.specs.Values.{owner_of}

abbrev pub AreCells : List (List ℕ) → IntKind → Cells → Variable → Type 0
AreCells ns k (Number z) (Holds j None c) = (j ≡ k) × (c 0 ≡ z)
AreCells ns k (Array xs) (Holds j (Some n) c) = (j ≡ k) × (n ≡ length xs) × ((i : ℕ) → i < length xs → slice_get xs i ≡ Some (c i))
AreCells ns k (Lent o) (Meant.Lent p) = p ≡ owner_of ns o
AreCells ns k _ _ = ⊥

abbrev pub IsRoom : List (List ℕ) → Room → Variable → Type 0
IsRoom ns r v = AreCells ns r.kind r.cells v

-- the kind, the number of cells and the numbers of each variable that the room is, and whether that is an array
abbrev pub IsKindOf : Room → IntKind → Type 0
IsKindOf r k = (ns : List (List ℕ)) (v : Variable) → IsRoom ns r v → kind_held v ≡ k

abbrev pub IsCountOf : Room → ℕ → Type 0
IsCountOf r n = (ns : List (List ℕ)) (v : Variable) → IsRoom ns r v → cells_held v ≡ n

abbrev pub IsNumberAt : Room → ℕ → ℤ → Type 0
IsNumberAt r i z = (ns : List (List ℕ)) (v : Variable) → IsRoom ns r v → number_held v i ≡ z

abbrev pub IsArrayIf : Room → Bool → Type 0
IsArrayIf r b = (ns : List (List ℕ)) (v : Variable) → IsRoom ns r v → is_array v ≡ b

-- no variable that the room is has a cell i
abbrev pub LacksCell : Room → ℕ → Type 0
LacksCell r i = (ns : List (List ℕ)) (v : Variable) → IsRoom ns r v → cells_held v ≤ i

-- whatever variable the room was, it is now what F makes of that
abbrev pub Becomes : (Variable → Variable) → Room → Room → Type 0
Becomes F old new = (ns : List (List ℕ)) (v : Variable) → IsRoom ns old v → IsRoom ns new (F v)

-- the room at a place is now what F makes of the variable that it was, and the others are as before
abbrev pub BecomesAt : (Variable → Variable) → ℕ → List Room → List Room → Type 0
BecomesAt F place old new = (was now : Room) × (slice_get old place ≡ Some was) × Becomes F was now × (new ≡ slice_set old place now)

-- the rooms are the slots of a call
abbrev pub AreSlots : List (List ℕ) → List Room → (ℕ → Variable) → Type 0
AreSlots ns rooms slots = (x : ℕ) (r : Room) → slice_get rooms x ≡ Some r → IsRoom ns r (slots x)

-- a call has these slots, and the others have those that they had
abbrev pub HasSlots : ℕ → List Room → List (List Room) → List (List Room) → Type 0
HasSlots call slots old new = (slice_get new call ≡ Some slots) × ((other : ℕ) → other ≢ call → slice_get new other ≡ slice_get old other)

-- ---- numbers that become 0 from a place on

abbrev pub KeptBelow : ℕ → List ℤ → List ℤ → Type 0
KeptBelow from old new = (i : ℕ) → i < from → slice_get new i ≡ slice_get old i

abbrev pub ZeroFrom : ℕ → List ℤ → Type 0
ZeroFrom from new = (i : ℕ) → from ≤ i → i < length new → slice_get new i ≡ Some (pos 0)

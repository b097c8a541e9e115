-- What the variables of the machine are in the meaning.
use Rattle.std.specs.Prelude.{ℕ, ◌<◌, ℤ, Bool, List, [], map, ◌≡◌, length, slice_get, Option, Some, option_and_then}
use Rattle.c_types.specs.declared.kinds.IntKind.{IntKind}
use Rattle.c_tree.specs.declared.tree.Home.{Home}
use Rattle.jump_meaning.specs.Values.{Value, Designates}
use Rattle.jump_meaning.specs.Code.{FunctionTree, entry_or}
use Rattle.jump_meaning.specs.World.{World, owner, named, kind_held, cells_held, number_held, store, clear, slot_at_start, enter_call, pop}
use Rattle.jump_meaning.specs.Calls.{is_array_slot}
use Rattle.step_memory.specs.declared.room.Room.{Room}
use Rattle.step_memory.specs.declared.store.Store.{Store}
use Rattle.step_memory.specs.declared.value.Owner.{Owner}
use Rattle.step_memory.specs.declared.value.Owner.TheVariants.{File, Call}
use Rattle.step_memory.specs.Values.{owner_of}
use Rattle.step_memory.specs.Rooms.{IsRoom, LacksCell, AreSlots}

-- the names of the variables of the file
abbrev pub names_of : Store → List (List ℕ)
names_of s = map (λ n. n.now) s.names.items

-- the room of a variable
abbrev pub room_at : Store → Owner → Option Room
room_at s (File i) = slice_get s.file i
room_at s (Call c x) = option_and_then (λ rs. slice_get rs x) (slice_get s.calls c)

-- the rooms are the variables of the world
pub record HoldsWorld (s : Store) (w : World) : Type 0 where
  -- each room is the variable that its owner is
  pub rooms : (o : Owner) (r : Room) → room_at s o ≡ Some r → IsRoom (names_of s) r (w.variables (owner_of (names_of s) o))
  -- no two variables of the file have one name
  pub apart : (i j : ℕ) → i < length s.file → j < length s.file → entry_or [] (names_of s) i ≡ entry_or [] (names_of s) j → i ≡ j
  -- the newest call is the last of those that are present
  pub newest : w.calls ≡ s.newest

-- the variable that a name stands for, and the one that it reaches
abbrev pub Names : Store → Home → Owner → Type 0
Names s h o = (w : World) → HoldsWorld s w → named h w ≡ owner_of (names_of s) o

abbrev pub Reaches : Store → Home → Owner → Type 0
Reaches s h o = (w : World) → HoldsWorld s w → owner h w ≡ owner_of (names_of s) o

-- the kind, the number of cells and a number of a variable
abbrev pub HasKind : Store → Owner → IntKind → Type 0
HasKind s o k = (w : World) → HoldsWorld s w → kind_held (w.variables (owner_of (names_of s) o)) ≡ k

abbrev pub HasCount : Store → Owner → ℕ → Type 0
HasCount s o n = (w : World) → HoldsWorld s w → cells_held (w.variables (owner_of (names_of s) o)) ≡ n

abbrev pub HasNumber : Store → Owner → ℕ → ℤ → Type 0
HasNumber s o i z = (w : World) → HoldsWorld s w → number_held (w.variables (owner_of (names_of s) o)) i ≡ z

-- there is no such cell
abbrev pub HasNoCell : Store → Owner → ℕ → Type 0
HasNoCell s o i = (r : Room) → room_at s o ≡ Some r → LacksCell r i

-- whether a slot of the newest call is an array
abbrev pub HasArray : Store → ℕ → Bool → Type 0
HasArray s x b = (w : World) → HoldsWorld s w → is_array_slot x w ≡ b

-- a number is stored in a cell of a variable
abbrev pub StoresIn : Owner → ℕ → ℤ → Store → Store → Type 0
StoresIn o i z old new = (w : World) → HoldsWorld old w → HoldsWorld new (store (Designates (owner_of (names_of old) o) i) z w)

-- the cells of a variable from one on become 0
abbrev pub ClearsIn : Home → ℕ → Store → Store → Type 0
ClearsIn h n old new = (w : World) → HoldsWorld old w → HoldsWorld new (clear h n w)

-- a call with these slots is entered, whatever function and arguments they belong to
abbrev pub EntersCall : List Room → Store → Store → Type 0
EntersCall slots old new =
    (f : FunctionTree) (vs : List Value) → AreSlots (names_of old) slots (slot_at_start f vs) → (w : World) → HoldsWorld old w →
    HoldsWorld new (enter_call f vs w)

-- the newest call is gone
abbrev pub LeavesCall : Store → Store → Type 0
LeavesCall old new = (f : FunctionTree) (w : World) → HoldsWorld old w → HoldsWorld new (pop f w)

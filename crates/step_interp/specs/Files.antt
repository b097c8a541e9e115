-- The variables of the file at the start of a run.
use Rattle.std.specs.Prelude.{ℕ, ◌<◌, ℤ, pos, Bool, false, List, [], ◌∷◌, map, ◌≡◌, length, slice_get, Some, is_some}
use Rattle.std.specs.Borrow.{Bor}
use Rattle.std.specs.BTreeMap.{BTreeMap, get_by}
use Rattle.std.specs.Cmp.Lexicographic.{slice_cmp}
use Rattle.std.specs.List.{list_any}
use Rattle.std.specs.Ordering.{nat_cmp}
use Rattle.std.specs.Str.{bytes_eq}
use Rattle.c_types.specs.declared.kinds.IntKind.{IntKind}
use Rattle.c_types.specs.Numbers.{converted}
use Rattle.c_tree.specs.declared.tree.Expression.{Expression}
use Rattle.c_tree.specs.declared.tree.Top.{Top}
use Rattle.c_tree.specs.Trees.{expression_trees}
use Rattle.jump_meaning.specs.Code.{entry_or, constant_or_zero, global_named}
use Rattle.step_memory.specs.declared.room.Room.{Room}
use Rattle.step_memory.specs.Rooms.{IsRoom}

-- the number of a cell at the start
abbrev pub first_cell : IntKind → List Expression → ℕ → ℤ
first_cell k es i = entry_or (pos 0) (map (λ e. converted k (constant_or_zero e)) (expression_trees es)) i

abbrev pub AreFirstCells : IntKind → List Expression → List ℤ → Type 0
AreFirstCells k es cells = (i : ℕ) → i < length cells → slice_get cells i ≡ Some (first_cell k es i)

-- whether the name is among these
abbrev pub has_name : List (List ℕ) → List ℕ → Bool
has_name ns m = list_any (λ n. bytes_eq n m) ns

-- the table of places has these names
abbrev pub HasPlaces : List (List ℕ) → BTreeMap (Bor (List ℕ)) ℕ → Type 0
HasPlaces names places = (m : List ℕ) → is_some (get_by (λ k. slice_cmp nat_cmp m k.now) places) ≡ has_name names m

-- the rooms are the variables of the declarations, of which these are left, by the table of names
pub record HasFile (tops left : List Top) (names : List (List ℕ)) (file : List Room) : Type 0 where
  pub count : length names ≡ length file
  pub rooms : (i : ℕ) (r : Room) → slice_get file i ≡ Some r → (ns : List (List ℕ)) → IsRoom ns r (global_named (entry_or [] names i) tops)
  pub apart : (i j : ℕ) → i < length file → j < length file → entry_or [] names i ≡ entry_or [] names j → i ≡ j
  -- a variable of another name is declared by what is left
  pub others : (m : List ℕ) → has_name names m ≡ false → global_named m tops ≡ global_named m left

-- a declaration is the next one
abbrev pub AddsTop : Top → List (List ℕ) → List Room → List (List ℕ) → List Room → Type 0
AddsTop t names file new rooms = (tops left : List Top) → HasFile tops (t ∷ left) names file → HasFile tops left new rooms

-- A Leap and the Land of its label in its list.
use Rattle.std.specs.Prelude.{◌≡◌, ℕ, List, Option, Some, None}
use Rattle.std.specs.List.{position}
use Rattle.c_tree.specs.declared.tree.Item.{Item}
use Rattle.c_tree.specs.declared.tree.Path.{Path}
use Rattle.c_tree.specs.Join.{list_there, CanJoin, Joins}
use Rattle.label_offsets.specs.Marks.{is_land, land_after}

-- rule J applies to the Leap at the path
pub record HasSibling (body : List Item) (at : Path) : Type 0 where
  pub label : ℕ
  pub place : ℕ
  pub applies : CanJoin label at.item place at.steps body

abbrev pub or_else : Option ℕ → Option ℕ → Option ℕ
or_else None b = b
or_else (Some a) b = Some a

-- the place of the Land of the label in a list with the Leap at i: the first after it, else the first
abbrev pub land_beside : ℕ → ℕ → List Item → Option ℕ
land_beside l i xs = or_else (land_after l i xs) (position (is_land l) xs)

-- the body `old` becomes `new` as the Leap at the path is joined with the Land in its list
pub record IsJoined (at : Path) (old new : List Item) : Type 0 where
  pub label : ℕ
  pub place : ℕ
  pub joins : Joins label at.item place at.steps old new
  pub first : land_beside label at.item (list_there old at.steps) ≡ Some place

-- A Leap before an item that holds its label.
use Rattle.std.specs.Prelude.{◌≡◌, ℕ, ◌<◌, ℤ, List, Some}
use Rattle.c_tree.specs.declared.tree.Item.{Item, Leap}
use Rattle.c_tree.specs.declared.tree.Branch.{Branch}
use Rattle.c_tree.specs.declared.tree.Path.{Path}
use Rattle.c_tree.specs.Paths.{child, item_at}
use Rattle.c_tree.specs.Join.{Holds}
use Rattle.c_tree.specs.Labels.{lands}
use Rattle.c_tree.specs.Outward.{HasBranch}
use Rattle.c_tree.specs.Inward.{MovesIn}
use Rattle.c_tree.specs.Trees.{trees_of}
use Rattle.c_tree.specs.WellMade.{IsWellMade}

-- the list of the item at the branch leads to the Land of the label
pub record LeadsTo (l : ℕ) (b : Branch) (x : Item) : Type 0 where
  pub construct : HasBranch b x
  pub held : Holds (λ a. 0 < lands l (trees_of a)) (child b x)

-- rule I applies to the Leap at the path of a well made body
pub record IsHeldAfter (body : List Item) (at : Path) : Type 0 where
  pub label : ℕ
  pub place : ℕ
  pub branch : Branch
  pub well_made : IsWellMade (trees_of body)
  pub leap : item_at body at.steps at.item ≡ Some (Leap label)
  pub later : at.item < place
  pub leads : Holds (LeadsTo label branch) (item_at body at.steps place)

-- the body `old` becomes `new` as the Leap at the path goes in, and the Leap then stands at `to`
pub record IsMovedIn (at : Path) (old new : List Item) (to : Path) : Type 0 where
  pub label : ℕ
  pub number : ℤ
  pub place : ℕ
  pub branch : Branch
  pub moves : MovesIn label number at.item place branch at.steps old new to

-- A Leap in a list of a construct that does not hold its label.
use Rattle.std.specs.Prelude.{◌≡◌, ℕ, List, [], ◌∷◌, ◌++◌}
use Rattle.c_tree.specs.declared.tree.Item.{Item}
use Rattle.c_tree.specs.declared.tree.Path.{Path}
use Rattle.c_tree.specs.declared.tree.Step.{Step}
use Rattle.c_tree.specs.Outward.{CanMoveOut, MovesOut}

-- rule O applies to the Leap at the path
pub record IsHeldElsewhere (body : List Item) (at : Path) : Type 0 where
  pub label : ℕ
  pub outer : List Step
  pub last : Step
  pub steps : at.steps ≡ outer ++ last ∷ []
  pub applies : CanMoveOut label outer last at.item body

-- the body `old` becomes `new` as the Leap at the path goes out, and the Leap then stands at `to`
pub record IsMovedOut (at : Path) (old new : List Item) (to : Path) : Type 0 where
  pub label : ℕ
  pub outer : List Step
  pub last : Step
  pub steps : at.steps ≡ outer ++ last ∷ []
  pub moves : MovesOut label outer last at.item old new to

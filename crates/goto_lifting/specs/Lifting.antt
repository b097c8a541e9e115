-- A Leap after an item that holds its label.
use Rattle.std.specs.Prelude.{ℕ, List}
use Rattle.c_tree.specs.declared.tree.Item.{Item}
use Rattle.c_tree.specs.declared.tree.Path.{Path}
use Rattle.c_tree.specs.Lift.{CanLift, Lifts}

-- rule L applies to the Leap at the path
pub record IsHeldBefore (body : List Item) (at : Path) : Type 0 where
  pub label : ℕ
  pub place : ℕ
  pub applies : CanLift label at.item place at.steps body

-- the body `old` becomes `new` as the Leap at the path is lifted, and the Leap then stands at `to`
pub record IsLifted (at : Path) (old new : List Item) (to : Path) : Type 0 where
  pub label : ℕ
  pub place : ℕ
  pub lifts : Lifts label at.item place at.steps old new to

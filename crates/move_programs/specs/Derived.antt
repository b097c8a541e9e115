-- A converted function before and after the moves of its Leaps.
use Rattle.std.specs.Prelude.{◌≡◌, List, Some}
use Rattle.c_tree.specs.declared.tree.Item.{Item}
use Rattle.c_tree.specs.declared.tree.Function.{Function}
use Rattle.c_tree.specs.Trees.{trees_of}
use Rattle.c_tree.specs.WellMade.{IsWellMade}
use Rattle.move_laws.specs.Bodies.{with_body}
use Rattle.move_order_laws.specs.declared.kept.Kept.{Kept}
use Rattle.move_order_laws.specs.Derivations.{Derives}

-- the function has a well made body
pub record IsReady (f : Function) : Type 0 where
  pub body : List Item
  pub body_is : f.body ≡ Some body
  pub well_made : IsWellMade (trees_of body)

-- g is f with its body after all moves
pub record IsDerived (f g : Function) (ms : List Kept) : Type 0 where
  pub body : List Item
  pub new : List Item
  pub body_is : f.body ≡ Some body
  pub derives : Derives body ms new
  pub result : g ≡ with_body f new

-- What `skeleton_laws` states: moves, simplifications and the conversion keep the skeleton of a body.
use Rattle.std.specs.Prelude.{◌≡◌, ℕ, Bool, List}
use Rattle.c_tree.specs.declared.tree.Item.{Item}
use Rattle.c_tree.specs.Trees.{Forest, trees_of}
use Rattle.c_tree.specs.Everywhere.{Everywhere}
use Rattle.c_tree.specs.Changed.{Changed}
use Rattle.c_tree.specs.Moves.{Moved}
use Rattle.c_tree.specs.WellMade.{IsWellMade, IsConverted}
use Rattle.move_laws.specs.Simplifications.{Simplified}
use Rattle.move_laws.specs.Drops.{dropped}
use Rattle.move_order_laws.specs.declared.kept.Kept.{Kept}
use Rattle.move_order_laws.specs.Derivations.{Derives}
use Rattle.c_tree.specs.Conversions.{convert}
use Rattle.move_order_laws.specs.Skeletons.{skeleton}

-- conversion, moves and simplifications keep the skeleton
pub record SkeletonLaws : Type 0 where
  -- each of the four rules keeps it, at any place of a well made list
  pub moved : (xs ys : Forest) → IsWellMade xs → Changed Moved xs ys → skeleton ys ≡ skeleton xs
  -- and so does each simplification of made tests
  pub simplified : (xs ys : Forest) → Everywhere IsConverted xs → Everywhere IsConverted ys → Changed Simplified xs ys → skeleton ys ≡ skeleton xs
  -- and the removal of guards
  pub dropped : (d : ℕ → Bool) (xs : Forest) → Everywhere IsConverted xs → skeleton (dropped d xs) ≡ skeleton xs
  -- the conversion of any list has the skeleton of the list
  pub converted : (xs : Forest) → skeleton (convert xs) ≡ skeleton xs
  -- so the end of a derivation has the skeleton of its start
  pub derived : (body : List Item) (ms : List Kept) (new : List Item) → IsWellMade (trees_of body) → Derives body ms new →
      skeleton (trees_of new) ≡ skeleton (trees_of body)

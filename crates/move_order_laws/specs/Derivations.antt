-- The derivation of a body: all moves until no Leap is left.
use Rattle.std.specs.Prelude.{◌≡◌, ℕ, List, [], ◌∷◌, ◌++◌, Some, None}
use Rattle.c_tree.specs.declared.tree.Item.{Item}
use Rattle.c_tree.specs.declared.tree.Path.{Path}
use Rattle.move_order_laws.specs.declared.kept.Kept.{Kept}
use Rattle.label_offsets.specs.Leaps.{leaps_from, first}
use Rattle.report_moves.specs.declared.moves.MoveKind.{MoveKind}
use Rattle.report_moves.specs.declared.moves.MoveKind.TheVariants.{Join}
use Rattle.move_order_laws.specs.Next.{Point, IsJoined, MovesBy}

-- the moves of a chosen Leap, the last of which joins it: the body is `new` then
pub data Eliminates (l : ℕ) : Point → List Kept → List Item → Type 0 where
  joins : (p : Point) (new : List Item) → IsJoined l p new → Eliminates l p (record { kind = Join; label = l; path = p.at } ∷ []) new
  moves : (k : MoveKind) (p q : Point) (ms : List Kept) (new : List Item) → MovesBy k l p q → Eliminates l q ms new →
      Eliminates l p (record { kind = k; label = l; path = p.at } ∷ ms) new

-- the moves of a body, where the first Leap in text order is chosen at the start and after each join
pub data Derives : List Item → List Kept → List Item → Type 0 where
  -- no Leap is left
  ends : (body : List Item) → first (leaps_from 0 body) ≡ None → Derives body [] body
  chooses : (body : List Item) (at : Path) (l : ℕ) (ms ns : List Kept) (mid new : List Item) → first (leaps_from 0 body) ≡ Some at
      → Eliminates l (record { body = body; at = at }) ms mid → Derives mid ns new → Derives body (ms ++ ns) new

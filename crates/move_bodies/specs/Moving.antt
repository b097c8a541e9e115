-- What the driver of a body does by one move, and what it has done so far.
use Rattle.std.specs.Prelude.{◌≡◌, ℕ, ◌+◌, List, ◌++◌, Option, Some, None}
use Rattle.c_tree.specs.declared.tree.Item.{Item, Leap}
use Rattle.c_tree.specs.declared.tree.Path.{Path}
use Rattle.c_tree.specs.Paths.{item_at}
use Rattle.c_tree.specs.Trees.{trees_of}
use Rattle.c_tree.specs.WellMade.{IsWellMade}
use Rattle.report_moves.specs.declared.moves.MoveKind.{MoveKind}
use Rattle.report_moves.specs.declared.moves.MoveKind.TheVariants.{Join}
use Rattle.move_order_laws.specs.declared.kept.Kept.{Kept}
use Rattle.move_order_laws.specs.Levels.{moves_left}
use Rattle.move_order_laws.specs.Next.{Point, IsJoined, MovesBy}
use Rattle.move_order_laws.specs.Derivations.{Eliminates, Derives}

-- the Leap of the label is moved by the kind, and stands at the path then; it is joined where there is none
abbrev pub MovesTo : Option Path → MoveKind → ℕ → Point → List Item → Type 0
MovesTo None k l p new = (k ≡ Join) × IsJoined l p new
MovesTo (Some to) k l p new = MovesBy k l p (record { body = new; at = to })

-- the body is made of the old one by one move of the Leap of the label at the path
pub record IsMove (l : ℕ) (at : Path) (kind : MoveKind) (to : Option Path) (old new : List Item) : Type 0 where
  pub moves : MovesTo to kind l (record { body = old; at = at }) new

-- the moves so far of the Leap that was at the path, while it stands at another, or when it is joined
abbrev pub Continues : Option Path → ℕ → Path → List Item → List Kept → List Item → Type 0
Continues None l at old ms new = Eliminates l (record { body = old; at = at }) ms new
Continues (Some to) l at old ms new =
    (item_at new to.steps to.item ≡ Some (Leap l))
    × ((ns : List Kept) (end : List Item) → Eliminates l (record { body = new; at = to }) ns end → Eliminates l (record { body = old; at = at }) (ms ++ ns) end)

-- the moves so far of the Leap that was at the path in the old body come after those before
pub record IsUnderway (l : ℕ) (at : Path) (to : Option Path) (old new : List Item) (before after : List Kept) : Type 0 where
  pub done : List Kept
  pub kept : after ≡ before ++ done
  pub continues : Continues to l at old done new
  pub well_made : IsWellMade (trees_of new)

-- the Leap at the path is moved until it is joined, and its moves come after those before
pub record IsEliminated (at : Path) (old new : List Item) (before after : List Kept) : Type 0 where
  pub label : ℕ
  pub moves : List Kept
  pub kept : after ≡ before ++ moves
  pub eliminates : Eliminates label (record { body = old; at = at }) moves new

-- how many moves the Leap has before it at most; none where it is joined
abbrev pub moves_ahead : ℕ → List Item → Option Path → ℕ
moves_ahead l body None = 0
moves_ahead l body (Some at) = 1 + moves_left l body at

-- the moves so far of a body
pub record IsDerivedTo (old new : List Item) (moves : List Kept) : Type 0 where
  pub continues : (ns : List Kept) (end : List Item) → Derives new ns end → Derives old (moves ++ ns) end
  pub well_made : IsWellMade (trees_of new)

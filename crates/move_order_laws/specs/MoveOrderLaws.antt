-- What `next_move_laws`, `count_laws`, `nesting_laws` and `derivation_laws` state.
use Rattle.std.specs.Prelude.{◌≡◌, ◌⊎◌, ℕ, ◌+◌, ◌*◌, ◌≤◌, ◌<◌, List, Some, None, length}
use Rattle.c_tree.specs.declared.tree.Item.{Item, Leap, Land}
use Rattle.c_tree.specs.declared.tree.Path.{Path}
use Rattle.c_tree.specs.Paths.{item_at}
use Rattle.c_tree.specs.Trees.{trees_of}
use Rattle.c_tree.specs.WellMade.{IsWellMade}
use Rattle.label_offsets.specs.Leaps.{leaps_from, first}
use Rattle.report_moves.specs.declared.moves.MoveKind.{MoveKind}
use Rattle.move_order_laws.specs.Levels.{moves_left}
use Rattle.move_order_laws.specs.Leaps.{leaps}
use Rattle.move_order_laws.specs.Nesting.{nesting}
use Rattle.move_order_laws.specs.Next.{Point, IsJoined, MovesBy, Goes}
use Rattle.move_order_laws.specs.declared.kept.Kept.{Kept}
use Rattle.move_order_laws.specs.MoveOrderCounts.{join_count}
use Rattle.move_order_laws.specs.Derivations.{Eliminates, Derives}

-- a Leap of the label stands at the point
abbrev pub HasLeap : ℕ → Point → Type 0
HasLeap l p = item_at p.body p.at.steps p.at.item ≡ Some (Leap l)

-- a body is made of another by a move of the chosen Leap, which stays chosen
pub record IsMovable (l : ℕ) (p : Point) : Type 0 where
  pub kind : MoveKind
  pub next : Point
  pub move : MovesBy kind l p next

-- a body is made of another by joining the chosen Leap
pub record IsJoinable (l : ℕ) (p : Point) : Type 0 where
  pub body : List Item
  pub join : IsJoined l p body

-- the next move of a Leap in a well made body
pub record NextMoveLaws : Type 0 where
  -- there is one
  pub some : (l : ℕ) (p : Point) → IsWellMade (trees_of p.body) → HasLeap l p → IsMovable l p ⊎ IsJoinable l p
  -- by one rule, with one body after it
  pub one : (l : ℕ) (p q r : Point) (j k : MoveKind) → IsWellMade (trees_of p.body) → MovesBy j l p q → MovesBy k l p r → (j ≡ k) × (q ≡ r)
  pub one_join : (l : ℕ) (p : Point) (new other : List Item) → IsWellMade (trees_of p.body) → IsJoined l p new → IsJoined l p other → new ≡ other
  -- and where it can be joined, no other rule applies
  pub join_alone : (l : ℕ) (p q : Point) (k : MoveKind) (new : List Item) → IsWellMade (trees_of p.body) → MovesBy k l p q → ¬ (IsJoined l p new)
  -- the Leap stands where the path says then, in a well made body
  pub stands : (l : ℕ) (p q : Point) (k : MoveKind) → MovesBy k l p q → HasLeap l q
  pub well_made : (l : ℕ) (p q : Point) (k : MoveKind) → IsWellMade (trees_of p.body) → MovesBy k l p q → IsWellMade (trees_of q.body)
  pub joined_well_made : (l : ℕ) (p : Point) (new : List Item) → IsWellMade (trees_of p.body) → IsJoined l p new → IsWellMade (trees_of new)

-- how many moves a Leap has
pub record CountLaws : Type 0 where
  -- each leaves fewer for it
  pub fewer : (l : ℕ) (p q : Point) (k : MoveKind) → IsWellMade (trees_of p.body) → MovesBy k l p q → moves_left l q.body q.at < moves_left l p.body p.at
  -- from its choice to its join they are at most the level of the Leap, that of its Land, and three
  pub bounded : (l : ℕ) (p : Point) (land : Path) (ms : List Kept) (new : List Item) → IsWellMade (trees_of p.body) → Eliminates l p ms new →
      item_at p.body land.steps land.item ≡ Some (Land l)
      → length ms ≤ length p.at.steps + length land.steps + 3
  -- and in a derivation of a body there is one join for each Leap
  pub joins : (body : List Item) (ms : List Kept) (new : List Item) → IsWellMade (trees_of body) → Derives body ms new → join_count ms ≡ leaps (trees_of body)

-- how deep the lists of a body come to stand in one another
pub record NestingLaws : Type 0 where
  -- from the choice of a Leap on, up to three levels deeper
  pub on_the_way : (l n : ℕ) (p q : Point) → IsWellMade (trees_of p.body) → Goes l n p q → nesting (trees_of q.body) ≤ nesting (trees_of p.body) + 3
  -- its join included
  pub joined : (l : ℕ) (p : Point) (ms : List Kept) (new : List Item) → IsWellMade (trees_of p.body) → Eliminates l p ms new →
      nesting (trees_of new) ≤ nesting (trees_of p.body) + 3
  -- and three for each Leap in all
  pub derived : (body : List Item) (ms : List Kept) (new : List Item) → IsWellMade (trees_of body) → Derives body ms new →
      nesting (trees_of new) ≤ nesting (trees_of body) + 3 * leaps (trees_of body)

-- a body has a derivation
pub record HasDerivation (body : List Item) : Type 0 where
  pub moves : List Kept
  pub new : List Item
  pub derives : Derives body moves new

-- the derivation of a well made body
pub record DerivationLaws : Type 0 where
  pub some : (body : List Item) → IsWellMade (trees_of body) → HasDerivation body
  -- is one alone
  pub one : (body : List Item) (ms ns : List Kept) (new other : List Item) → IsWellMade (trees_of body) → Derives body ms new →
      Derives body ns other → (ms ≡ ns) × (new ≡ other)
  -- and leaves a well made body without Leap
  pub well_made : (body : List Item) (ms : List Kept) (new : List Item) → IsWellMade (trees_of body) → Derives body ms new → IsWellMade (trees_of new)
  pub none_left : (body : List Item) (ms : List Kept) (new : List Item) → Derives body ms new → first (leaps_from 0 new) ≡ None
  pub no_leap : (body : List Item) (ms : List Kept) (new : List Item) → IsWellMade (trees_of body) → Derives body ms new → leaps (trees_of new) ≡ 0

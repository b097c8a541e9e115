-- The next move of a chosen Leap.
use Rattle.std.specs.Prelude.{◌≡◌, ℕ, zero, suc, ℤ, List, [], ◌∷◌, ◌++◌}
use Rattle.c_tree.specs.declared.tree.Item.{Item}
use Rattle.c_tree.specs.declared.tree.Branch.{Branch}
use Rattle.c_tree.specs.declared.tree.Path.{Path}
use Rattle.c_tree.specs.declared.tree.Step.{Step}
use Rattle.c_tree.specs.Join.{Joins}
use Rattle.c_tree.specs.Lift.{Lifts}
use Rattle.c_tree.specs.Outward.{MovesOut}
use Rattle.c_tree.specs.Inward.{MovesIn}
use Rattle.report_moves.specs.declared.moves.MoveKind.{MoveKind}
use Rattle.report_moves.specs.declared.moves.MoveKind.TheVariants.{Out, Lift, Inward}

-- a body, and the path of the chosen Leap in it
pub record Point : Type 0 where
  pub body : List Item
  pub at : Path

-- the Leap goes out of the construct in whose list it stands
pub record GoesOut (l : ℕ) (p q : Point) : Type 0 where
  pub outer : List Step
  pub last : Step
  pub steps : p.at.steps ≡ outer ++ last ∷ []
  pub moves : MovesOut l outer last p.at.item p.body q.body q.at

-- it is lifted before an earlier element that holds its label
pub record IsLifted (l : ℕ) (p q : Point) : Type 0 where
  pub place : ℕ
  pub moves : Lifts l p.at.item place p.at.steps p.body q.body q.at

-- it goes into a later element that holds its label
pub record GoesIn (l : ℕ) (p q : Point) : Type 0 where
  pub number : ℤ
  pub place : ℕ
  pub branch : Branch
  pub moves : MovesIn l number p.at.item place branch p.at.steps p.body q.body q.at

-- it is joined with the Land in its list, and the body is `new` then
pub record IsJoined (l : ℕ) (p : Point) (new : List Item) : Type 0 where
  pub place : ℕ
  pub moves : Joins l p.at.item place p.at.steps p.body new

-- the Leap of the label stays chosen after a move of the kind
abbrev pub MovesBy : MoveKind → ℕ → Point → Point → Type 0
MovesBy Out l p q = GoesOut l p q
MovesBy Lift l p q = IsLifted l p q
MovesBy Inward l p q = GoesIn l p q
MovesBy _ l p q = ⊥

-- so many moves after one another
pub data Goes (l : ℕ) : ℕ → Point → Point → Type 0 where
  stays : (p : Point) → Goes l zero p p
  goes : (k : MoveKind) {n : ℕ} {p q r : Point} → MovesBy k l p q → Goes l n q r → Goes l (suc n) p r

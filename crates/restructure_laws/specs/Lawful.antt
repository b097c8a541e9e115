-- Moves in whatever order they are chosen: which move may be made, and what a list of them makes of a program.
use Rattle.std.specs.Prelude.{◌≡◌, ◌≢◌, ◌⊎◌, ℕ, true, List, [], ◌∷◌, Option, Some, slice_get}
use Rattle.c_tree.specs.declared.tree.Item.{Item}
use Rattle.c_tree.specs.declared.tree.Function.{Function}
use Rattle.c_tree.specs.declared.tree.Path.{Path}
use Rattle.c_tree.specs.declared.tree.Top.{Top}
use Rattle.c_tree.specs.declared.tree.Top.TheVariants as T
use Rattle.c_tree.specs.Trees.{trees_of}
use Rattle.move_laws.specs.Bodies.{with_body}
use Rattle.label_offsets.specs.declared.places.Rule.{Rule}
use Rattle.label_offsets.specs.declared.places.Rule.TheVariants.{SiblingBefore, SiblingAfter, InwardOf, LiftOf, Outward}
use Rattle.report_moves.specs.declared.moves.MoveKind.{MoveKind}
use Rattle.report_moves.specs.declared.moves.MoveKind.TheVariants.{Out, Lift, Inward, Join}
use Rattle.report_moves.specs.declared.moves.Move.{Move}
use Rattle.move_order_laws.specs.Leaps.{leaps}
use Rattle.move_bodies.specs.Moving.{IsMove}
use Rattle.move_bodies.specs.Lawful.{IsMadeIn}

-- ---- in a body

-- the kind of a move by each rule; both siblings are joined
abbrev pub kind_of : Rule → MoveKind
kind_of SiblingBefore = Join
kind_of SiblingAfter = Join
kind_of InwardOf = Inward
kind_of LiftOf = Lift
kind_of Outward = Out

-- the path of the move leads to a Leap of the label that it names, and the body is `new` after a move of that Leap of
-- its kind
pub record IsLeapMoved (labels : List (List ℕ)) (m : Move) (old new : List Item) : Type 0 where
  pub label : ℕ
  pub named : slice_get labels label ≡ m.label
  pub to : Option Path
  pub moves : IsMove label m.path m.kind to old new

-- no Leap is left, and the body is `new` after the simplification that the move names, also one that isn't the next
pub record IsSimplifiedBy (name : List ℕ) (labels : List (List ℕ)) (m : Move) (old new : List Item) : Type 0 where
  pub leapless : leaps (trees_of old) ≡ 0
  pub made : IsMadeIn name labels m old new

-- ---- in a function

-- g is f, a flat function, after the move
pub record IsMovedBy (m : Move) (f g : Function) : Type 0 where
  pub body : List Item
  pub new : List Item
  pub flat : f.flat ≡ true
  pub name : f.name ≡ m.function
  pub body_is : f.body ≡ Some body
  pub made : IsLeapMoved f.labels m body new ⊎ IsSimplifiedBy f.name f.labels m body new
  pub result : g ≡ with_body f new

-- ---- in a program

-- it is no flat function of the name
abbrev pub IsOther : List ℕ → Top → Type 0
IsOther name (T.Function f) = f.flat ≡ true → f.name ≢ name
IsOther name _ = Unit {0}

-- the flat function that the move names is changed by it; all else is the same
pub data OneMoved (m : Move) : List Top → List Top → Type 0 where
  this_function : {f g : Function} (ts : List Top) → IsMovedBy m f g → OneMoved m (T.Function f ∷ ts) (T.Function g ∷ ts)
  later_function : (t : Top) {ts us : List Top} → IsOther m.function t → OneMoved m ts us → OneMoved m (t ∷ ts) (t ∷ us)

-- the move may be made
pub record IsLawful (m : Move) (ts : List Top) : Type 0 where
  pub after : List Top
  pub moved : OneMoved m ts after

-- the moves, in this order, each of which may be made at what those before it made
pub data Moves : List Top → List Move → List Top → Type 0 where
  none : {ts : List Top} → Moves ts [] ts
  more : {m : Move} {ms : List Move} {ts us vs : List Top} → OneMoved m ts us → Moves us ms vs → Moves ts (m ∷ ms) vs

-- Simplifications that may be made in any order.
use Rattle.std.specs.Prelude.{◌≡◌, ℕ, List, Option, Some, slice_get}
use Rattle.std.specs.Option.{option_and_then}
use Rattle.c_tree.specs.declared.tree.Item.{Item}
use Rattle.c_tree.specs.declared.tree.Function.{Function}
use Rattle.c_tree.specs.declared.tree.Path.{Path}
use Rattle.c_tree.specs.Trees.{trees_of}
use Rattle.move_laws.specs.Bodies.{with_body}
use Rattle.label_offsets.specs.Leaps.{first, places_from}
use Rattle.report_moves.specs.declared.moves.Move.{Move}
use Rattle.report_moves.specs.declared.moves.MoveKind.{MoveKind}
use Rattle.report_moves.specs.declared.moves.MoveKind.TheVariants.{Z5}
use Rattle.guard_simplify.specs.declared.choice.Choice.{Choice}
use Rattle.guard_simplify.specs.Choice.{Among, choices, has, barred}
use Rattle.guard_simplify.specs.Own.{own_of}
use Rattle.guard_simplify.specs.Application.{IsApplied}

-- the labels tell which simplifications of the kind apply, as those whose guards can't go do
abbrev pub AreBarredFor : MoveKind → List ℕ → List Item → Type 0
AreBarredFor kind labels body = (i : ℕ) (x : Item) (next : Option Item) →
    own_of kind (λ l. has l labels) i x next ≡ own_of kind (λ l. barred l (trees_of body)) i x next

-- the one of a kind at a place of a body
pub record IsAt (kind : MoveKind) (at : Path) (body : List Item) (c : Choice) : Type 0 where
  pub among : Among c (choices (trees_of body))
  pub kind_is : c.kind ≡ kind
  pub path_is : c.path ≡ at

-- there is none
abbrev pub IsNowhere : MoveKind → Path → List Item → Type 0
IsNowhere kind at body = (c : Choice) → Among c (choices (trees_of body)) → c.kind ≡ kind → c.path ≡ at → ⊥

-- its place is the first Arm or Land of its label
abbrev pub IsFirstPlace : List Item → Choice → Type 0
IsFirstPlace body c = (l : ℕ) → c.label ≡ Some l → first (places_from l 0 body) ≡ Some c.path

-- where it is a guard that goes
abbrev pub MayCome : List Item → Choice → Type 0
MayCome body c = c.kind ≡ Z5 → IsFirstPlace body c

-- it applies, whether or not it is the next, and is what the move names but for the function; the place of a guard that goes is
-- the first of its label
pub record IsNamed (body : List Item) (labels : List (List ℕ)) (m : Move) (c : Choice) : Type 0 where
  pub among : Among c (choices (trees_of body))
  pub first : MayCome body c
  pub kind : c.kind ≡ m.kind
  pub label : option_and_then (slice_get labels) c.label ≡ m.label
  pub path : c.path ≡ m.path

-- the move names one that is lawful in the body of a function of this name, with these labels
pub record IsLawfulIn (name : List ℕ) (labels : List (List ℕ)) (m : Move) (body : List Item) : Type 0 where
  pub choice : Choice
  pub function : name ≡ m.function
  pub named : IsNamed body labels m choice

-- and the body is `new` after it
pub record IsMadeIn (name : List ℕ) (labels : List (List ℕ)) (m : Move) (old new : List Item) : Type 0 where
  pub choice : Choice
  pub function : name ≡ m.function
  pub named : IsNamed old labels m choice
  pub applied : IsApplied choice old new

-- the move is lawful in the function
pub record IsLawfulMove (f : Function) (m : Move) : Type 0 where
  pub body : List Item
  pub body_is : f.body ≡ Some body
  pub lawful : IsLawfulIn f.name f.labels m body

-- and g is f after it
pub record IsMade (f g : Function) (m : Move) : Type 0 where
  pub body : List Item
  pub new : List Item
  pub body_is : f.body ≡ Some body
  pub made : IsMadeIn f.name f.labels m body new
  pub result : g ≡ with_body f new

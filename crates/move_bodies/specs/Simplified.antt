-- A body and a function after their simplifications.
use Rattle.std.specs.Prelude.{◌≡◌, ◌⊎◌, ℕ, suc, List, Option, Some, None, slice_get}
use Rattle.c_tree.specs.declared.tree.Item.{Item}
use Rattle.c_tree.specs.declared.tree.Function.{Function}
use Rattle.c_tree.specs.declared.tree.Path.{Path}
use Rattle.c_tree.specs.Paths.{list_at}
use Rattle.c_tree.specs.Trees.{trees_of}
use Rattle.c_tree.specs.WellMade.{IsWellMade}
use Rattle.move_laws.specs.Bodies.{with_body}
use Rattle.move_laws.specs.MoveRuleLaws.{Keeps}
use Rattle.report_moves.specs.declared.moves.Move.{Move}
use Rattle.report_moves.specs.declared.moves.MoveKind.TheVariants.{Z2, Z4}
use Rattle.guard_simplify.specs.declared.choice.Choice.{Choice}
use Rattle.guard_simplify.specs.Choice.{choices, first}
use Rattle.guard_simplify.specs.Views.{guard, beside, next_guard, arms_item}
use Rattle.guard_simplify.specs.Later.{AreBarred}
use Rattle.guard_simplify.specs.Application.{Reaches, IsSimple, IsNext}
use Rattle.guard_simplify.specs.Naming.{choices_named}

-- the body stands after some of the simplifications of the old one, each the next
pub record IsOnTheWay (old new : List Item) : Type 0 where
  pub choices : List Choice
  pub reaches : Reaches old choices new

-- g is f with its body after these simplifications, named, and no other applies
pub record IsSimplified (f g : Function) (moves : List Move) : Type 0 where
  pub body : List Item
  pub new : List Item
  pub choices : List Choice
  pub body_is : f.body ≡ Some body
  pub reaches : Reaches body choices new
  pub simple : IsSimple new
  pub result : g ≡ with_body f new
  pub named : moves ≡ choices_named f.name f.labels choices

-- g is f with its body after some of these simplifications
pub record IsPartlySimplified (f g : Function) : Type 0 where
  pub body : List Item
  pub new : List Item
  pub body_is : f.body ≡ Some body
  pub way : IsOnTheWay body new
  pub result : g ≡ with_body f new

-- the body of g is well made where that of f is, and then each steady program behaves the same with it
pub record KeepsBody (f g : Function) : Type 0 where
  pub body : List Item
  pub new : List Item
  pub old_body : f.body ≡ Some body
  pub new_body : g.body ≡ Some new
  pub well_made : IsWellMade (trees_of body) → IsWellMade (trees_of new)
  pub keeps : Keeps body new

-- the item before the item i of the list doesn't become one with it
abbrev pub IsApart : List Item → ℕ → Type 0
IsApart xs i = (n : ℕ) (x : Item) → i ≡ suc n → slice_get xs n ≡ Some x → beside (guard x) (next_guard (slice_get xs i)) (λ l. arms_item l x) ≡ None

-- nor does that before the item at a path of a body
abbrev pub IsApartAt : List Item → Path → Type 0
IsApartAt body at = (xs : List Item) → list_at body at.steps ≡ Some xs → IsApart xs at.item

-- nothing before the place of the simplification can have become possible in the body after it
abbrev pub GoesOn : Choice → List Item → Type 0
GoesOn c body = ((c.kind ≡ Z2) × IsApartAt body c.path) ⊎ (c.kind ≡ Z4)

-- the body stands after this simplification, which was the next; these are the labels whose guards couldn't go before it
pub record IsAfter (c : Choice) (labels : List ℕ) (body : List Item) : Type 0 where
  pub old : List Item
  pub next : IsNext c old body
  pub marks : AreBarred labels old

-- how far a body has come: the simplifications so far, the next one, and the labels whose guards can't go
pub record IsSimplifiedTo (old new : List Item) (cs : List Choice) (next : Option Choice) (labels : List ℕ) : Type 0 where
  pub reaches : Reaches old cs new
  pub next_is : next ≡ first (choices (trees_of new))
  pub marks : AreBarred labels new

-- The derivation of a function, and of a program: after the flat forms, each flat function in file order is
-- converted, its Leaps are moved until none is left, and what that made is simplified.
use Rattle.std.specs.Prelude.{◌≡◌, true, List, [], ◌∷◌, ◌++◌, Some}
use Rattle.c_tree.specs.declared.tree.Item.{Item}
use Rattle.c_tree.specs.declared.tree.Function.{Function}
use Rattle.c_tree.specs.declared.tree.Top.{Top}
use Rattle.c_tree.specs.declared.tree.Top.TheVariants as T
use Rattle.c_tree.specs.Trees.{trees_of}
use Rattle.c_tree.specs.WellMade.{IsWellMade}
use Rattle.jump_meaning.specs.Laws.{IsTopUnflat}
use Rattle.guard_vars.specs.Conversion.{converted, converted_list}
use Rattle.move_laws.specs.Bodies.{with_body}
use Rattle.report_moves.specs.declared.moves.Move.{Move}
use Rattle.move_order_laws.specs.declared.kept.Kept.{Kept}
use Rattle.move_order_laws.specs.Derivations.{Derives}
use Rattle.move_order_laws.specs.Naming.{all_named}
use Rattle.guard_simplify.specs.declared.choice.Choice.{Choice}
use Rattle.guard_simplify.specs.Application.{Reaches, IsSimple}
use Rattle.guard_simplify.specs.Naming.{choices_named}

-- g is f, a flat function, after its conversion, all moves of its Leaps and all simplifications; these are the moves, with
-- the names of the function and of its labels
pub record IsMoved (f g : Function) (ms : List Move) : Type 0 where
  pub body : List Item
  pub middle : List Item
  pub new : List Item
  pub moves : List Kept
  pub choices : List Choice
  pub body_is : f.body ≡ Some body
  pub derives : Derives (converted_list body) moves middle
  pub reaches : Reaches middle choices new
  pub simple : IsSimple new
  pub result : g ≡ with_body (converted f) new
  pub made : ms ≡ all_named f.name f.labels moves ++ choices_named f.name f.labels choices

-- what stands at file scope, before and after; only flat functions have moves
pub data MovedTop : Top → Top → List Move → Type 0 where
  mt_moved : {f g : Function} {ms : List Move} → f.flat ≡ true → IsMoved f g ms → MovedTop (T.Function f) (T.Function g) ms
  mt_other : (t : Top) → IsTopUnflat t → MovedTop t t []

-- all of it, in file order, with one list of moves
pub data MovedTops : List Top → List Top → List Move → Type 0 where
  mt_none : MovedTops [] [] []
  mt_more : {t u : Top} {ts us : List Top} {ms ns : List Move} → MovedTop t u ms → MovedTops ts us ns → MovedTops (t ∷ ts) (u ∷ us) (ms ++ ns)

-- a flat function has a body, whose conversion is well made
pub record IsMovable (f : Function) : Type 0 where
  pub body : List Item
  pub body_is : f.body ≡ Some body
  pub well_made : IsWellMade (trees_of (converted_list body))

-- a flat function at file scope can be moved
abbrev pub IsTopMovable : Top → Type 0
IsTopMovable (T.Function f) = f.flat ≡ true → IsMovable f
IsTopMovable _ = Unit {0}

-- How many moves the jumps of a rewritten program take, and how deep its lists come to stand in one another.
use Rattle.std.specs.Prelude.{ℕ, ◌+◌, ◌≡◌, ◌≤◌, true, List, [], ◌∷◌, ◌++◌, length, Some, None}
use Rattle.c_tree.specs.declared.tree.Item.{Item, Land}
use Rattle.c_tree.specs.declared.tree.Path.{Path}
use Rattle.c_tree.specs.declared.tree.Function.{Function}
use Rattle.c_tree.specs.declared.tree.Top.{Top}
use Rattle.c_tree.specs.declared.tree.Top.TheVariants as T
use Rattle.c_tree.specs.Paths.{item_at}
use Rattle.c_tree.specs.Trees.{trees_of}
use Rattle.guard_vars.specs.Conversion.{converted_list}
use Rattle.jump_meaning.specs.Laws.{IsTopUnflat}
use Rattle.label_offsets.specs.Leaps.{leaps_from, first}
use Rattle.report_moves.specs.declared.moves.Move.{Move}
use Rattle.move_order_laws.specs.declared.kept.Kept.{Kept}
use Rattle.move_order_laws.specs.Derivations.{Eliminates}
use Rattle.move_order_laws.specs.Naming.{all_named}
use Rattle.move_order_laws.specs.Nesting.{nesting}
use Rattle.move_order_laws.specs.Next.{Point, Goes}
use Rattle.guard_simplify.specs.declared.choice.Choice.{Choice}
use Rattle.guard_simplify.specs.Naming.{choices_named}

-- the moves of the Leap of a label from its choice at the point to its join, where the body is `new`: they are at most the
-- level of the Leap, that of its Land, and three
pub record IsWithinLevels (l : ℕ) (p : Point) (ms : List Kept) (new : List Item) : Type 0 where
  pub land : Path
  pub stands : item_at p.body land.steps land.item ≡ Some (Land l)
  pub few : length ms ≤ length p.at.steps + length land.steps + 3
  -- on the way and at the end, the lists of the body stand at most three levels deeper in one another
  pub on_the_way : (n : ℕ) (q : Point) → Goes l n p q → nesting (trees_of q.body) ≤ nesting (trees_of p.body) + 3
  pub joined : nesting (trees_of new) ≤ nesting (trees_of p.body) + 3

-- all moves of a body, those of one Leap after those of another
pub data AreWithinLevels : List Item → List Kept → List Item → Type 0 where
  no_leap : (body : List Item) → first (leaps_from 0 body) ≡ None → AreWithinLevels body [] body
  one_leap : (body : List Item) (at : Path) (l : ℕ) (ms ns : List Kept) (mid new : List Item) → first (leaps_from 0 body) ≡ Some at →
      Eliminates l (record { body = body; at = at }) ms mid
      → IsWithinLevels l (record { body = body; at = at }) ms mid → AreWithinLevels mid ns new → AreWithinLevels body (ms ++ ns) new

-- g is f, a flat function, after all its moves and simplifications, which are these
pub record IsMovedWithin (f g : Function) (ms : List Move) : Type 0 where
  pub body : List Item
  pub middle : List Item
  pub new : List Item
  pub moves : List Kept
  pub choices : List Choice
  pub old_body : f.body ≡ Some body
  pub new_body : g.body ≡ Some new
  pub made : ms ≡ all_named f.name f.labels moves ++ choices_named f.name f.labels choices
  pub within : AreWithinLevels (converted_list body) moves middle
  -- no list stands deeper after the simplifications
  pub simpler : nesting (trees_of new) ≤ nesting (trees_of middle)

-- what stands at file scope, before and after; only flat functions have moves
pub data TopMovedWithin : Top → Top → List Move → Type 0 where
  moved : {f g : Function} {ms : List Move} → f.flat ≡ true → IsMovedWithin f g ms → TopMovedWithin (T.Function f) (T.Function g) ms
  unmoved : (t : Top) → IsTopUnflat t → TopMovedWithin t t []

-- all of it, in file order, with the moves of one function after those of another
pub data TopsMovedWithin : List Top → List Top → List Move → Type 0 where
  no_top : TopsMovedWithin [] [] []
  one_top : {t u : Top} {ts us : List Top} {ms ns : List Move} → TopMovedWithin t u ms → TopsMovedWithin ts us ns → TopsMovedWithin (t ∷ ts) (u ∷ us) (ms ++ ns)

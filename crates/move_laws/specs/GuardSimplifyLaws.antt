-- What `simplification_laws` states: the simplifications of made tests keep a program steady, and its behaviour.
use Rattle.std.specs.Prelude.{List}
use Rattle.c_tree.specs.declared.tree.Item.{Item}
use Rattle.c_tree.specs.declared.tree.Program.{Program}
use Rattle.c_tree.specs.Trees.{Forest, trees_of}
use Rattle.c_tree.specs.Changed.{Changed}
use Rattle.c_tree.specs.WellMade.{IsWellMade}
use Rattle.jump_meaning.specs.Runs.{BehaveTheSame}
use Rattle.jump_meaning.specs.Steady.{IsSteady}
use Rattle.core_laws.specs.Better.{Better}
use Rattle.move_laws.specs.Bodies.{OneBodyChanged}
use Rattle.move_laws.specs.Simplifications.{Simplified}

-- one of the simplifications makes the second body of the first, which is well made
pub record SimplifiesWell (a b : List Item) : Type 0 where
  pub made : IsWellMade (trees_of a)
  pub simplified : Changed Simplified (trees_of a) (trees_of b)

pub record SimplificationLaws : Type 0 where
  -- a list is at least as good after one of them
  pub better : (xs ys : Forest) → Changed Simplified xs ys → Better xs ys
  -- a body stays well made
  pub made : (xs ys : Forest) → Changed Simplified xs ys → IsWellMade xs → IsWellMade ys
  -- a steady program stays steady, and behaves the same
  pub steady : (p q : Program) → OneBodyChanged SimplifiesWell p.tops q.tops → IsSteady p → IsSteady q × BehaveTheSame p q

-- What `unread_laws` states: a guard that nothing reads can go.
use Rattle.std.specs.Prelude.{ℕ, ◌≡◌, eqb, List}
use Rattle.c_tree.specs.declared.tree.Item.{Item}
use Rattle.c_tree.specs.declared.tree.Program.{Program}
use Rattle.c_tree.specs.Trees.{Forest, trees_of}
use Rattle.c_tree.specs.Everywhere.{Everywhere}
use Rattle.c_tree.specs.WellMade.{IsWellMade}
use Rattle.jump_meaning.specs.Runs.{BehaveTheSame}
use Rattle.jump_meaning.specs.Steady.{IsSteady}
use Rattle.move_laws.specs.Bodies.{OneBodyChanged}
use Rattle.move_laws.specs.Drops.{dropped, IsUnread}

-- the guard of a label that nothing reads goes from a well made body
pub record DropsGuard (a b : List Item) : Type 0 where
  pub label : ℕ
  pub made : IsWellMade (trees_of a)
  pub unread : Everywhere (IsUnread (eqb label)) (trees_of a)
  pub removed : trees_of b ≡ dropped (eqb label) (trees_of a)

pub record UnreadLaws : Type 0 where
  -- a body stays well made
  pub made : (l : ℕ) (a : Forest) → IsWellMade a → Everywhere (IsUnread (eqb l)) a → IsWellMade (dropped (eqb l) a)
  -- a steady program stays steady, and behaves the same
  pub steady : (p q : Program) → OneBodyChanged DropsGuard p.tops q.tops → IsSteady p → IsSteady q × BehaveTheSame p q

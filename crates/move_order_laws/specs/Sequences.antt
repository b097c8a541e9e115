-- Derivations: programs made from one another by conversions, rules and simplifications, one at a time.
use Rattle.c_tree.specs.declared.tree.Program.{Program}
use Rattle.jump_meaning.specs.Runs.{BehaveTheSame}
use Rattle.jump_meaning.specs.Steady.{IsSteady}
use Rattle.move_laws.specs.Bodies.{OneBodyChanged, MovesWell}
use Rattle.move_order_laws.specs.ConvertLaws.{OneFunctionConverted}
use Rattle.move_laws.specs.GuardSimplifyLaws.{SimplifiesWell}
use Rattle.move_laws.specs.GuardDropLaws.{DropsGuard}

-- one step from a program to the next
pub data Step (p q : Program) : Type 0 where
  -- a flat function is converted
  converts : OneFunctionConverted p.tops q.tops → Step p q
  -- one of the four rules changes a body
  moves : OneBodyChanged MovesWell p.tops q.tops → Step p q
  -- one of the simplifications of made tests does
  simplifies : OneBodyChanged SimplifiesWell p.tops q.tops → Step p q
  -- a guard that nothing reads goes
  drops : OneBodyChanged DropsGuard p.tops q.tops → Step p q

-- no step, or more
pub data Derives : Program → Program → Type 0 where
  none : {p : Program} → Derives p p
  then : {p q r : Program} → Step p q → Derives q r → Derives p r

pub record DerivationLaws : Type 0 where
  -- what is derived from a steady program is steady, and behaves as it does
  pub steady : (p q : Program) → Derives p q → IsSteady p → IsSteady q × BehaveTheSame p q

-- The laws of flat lists of gotos, which `lowered_laws` states.
use Rattle.std.specs.Prelude.{ℕ, ℤ, List, All}
use Rattle.c_types.specs.declared.kinds.IntKind.{IntKind}
use Rattle.c_tree.specs.declared.tree.Slot.{Slot}
use Rattle.c_tree.specs.ExpressionTrees.{ExpressionTree}
use Rattle.c_tree.specs.Trees.{Forest}
use Rattle.c_tree.specs.declared.tree.Program.{Program}
use Rattle.c_tree.specs.InRange.{IsProgramInRange}
use Rattle.jump_meaning.specs.Code.{FunctionTree, Code, items_of}
use Rattle.jump_meaning.specs.Laws.{HoldsNumbers, IsTopUnflat}
use Rattle.jump_meaning.specs.Runs.{SameBehaviour, BehaveTheSame}
use Rattle.jump_meaning.specs.Steady.{IsSteadyCode}
use Rattle.core_laws.specs.Laws.{HasMadeBodies}
use Rattle.flat_laws.specs.Placed.{IsOnce}
use Rattle.lower_laws.specs.Straight.{IsStraight}
use Rattle.lower_laws.specs.Lowered.{lowered_body}
use Rattle.lower_laws.specs.Source.{HasOwnLabels}
use Rattle.lower_laws.specs.Rewritten.{RewrittenCode, RewrittenTops}
use Rattle.lower_laws.specs.Functions.{IsLowered, AreFlat}

-- a program behaves as before
pub record LoweredLaws : Type 0 where
  -- where loops and `if`s of its functions become gotos
  pub straight_codes : (p q : Code) → RewrittenCode IsStraight p q → SameBehaviour p q
  pub straight_programs : (p q : Program) → RewrittenTops IsStraight p.tops q.tops → BehaveTheSame p q
  -- where its functions have the flat lists of their bodies
  pub codes : (p q : Code) → ((m : List ℕ) → HoldsNumbers (p.globals m)) → HasMadeBodies p → IsSteadyCode p → RewrittenCode IsLowered p q → SameBehaviour p q
  pub programs : (p q : Program) → IsProgramInRange p → All IsTopUnflat p.tops → RewrittenTops IsLowered p.tops q.tops → BehaveTheSame p q
  -- such a body is one flat list
  pub flat : (f h : FunctionTree) → IsLowered f h → AreFlat (items_of h)
  -- each label of a function so made stands at most once, where that is so in the source and the cases of each switch differ
  pub once : (number : IntKind → ℤ → ExpressionTree) (params : ℕ) (slots : List Slot) (n : ℕ) (body : Forest) → HasOwnLabels n body →
      IsOnce (lowered_body number params slots body)

-- The laws of looser bodies, which `loose_laws` states.
use Rattle.std.specs.Prelude.{ℕ, ℤ, List, All}
use Rattle.c_types.specs.declared.kinds.IntKind.{IntKind}
use Rattle.c_types.specs.Numbers.{converted}
use Rattle.c_tree.specs.declared.tree.Program.{Program}
use Rattle.c_tree.specs.InRange.{IsProgramInRange}
use Rattle.c_tree.specs.Numerals.{constant}
use Rattle.jump_meaning.specs.Code.{Code}
use Rattle.jump_meaning.specs.Runs.{SameBehaviour, BehaveTheSame}
use Rattle.jump_meaning.specs.Laws.{HoldsNumbers}
use Rattle.jump_meaning.specs.Steady.{IsTopMadeWell, IsSteadyCode, IsSteady}
use Rattle.core_laws.specs.Laws.{HasMadeBodies}
use Rattle.flat_laws.specs.Pieces.{IsNumber}
use Rattle.flat_laws.specs.Loose.{LooserCode, LooserTops}

-- where a program is steady, one of which each function is the same or looser is steady too and behaves the same
pub record LooseLaws : Type 0 where
  pub of_codes : (p q : Code) → ((m : List ℕ) → HoldsNumbers (p.globals m)) → HasMadeBodies p → HasMadeBodies q → LooserCode p q → IsSteadyCode p →
      IsSteadyCode q × SameBehaviour p q
  pub of_programs : (p q : Program) → IsProgramInRange q → All IsTopMadeWell q.tops → LooserTops p.tops q.tops → IsSteady p → IsSteady q × BehaveTheSame p q
  -- the constants that a dissolved switch compares with
  pub numbers : (k : IntKind) (z : ℤ) → IsNumber (constant k (converted k z)) k (converted k z)

-- The law of cores, which `core_laws` states.
use Rattle.std.specs.Prelude.{ℕ, ◌⊎◌, List, All}
use Rattle.c_tree.specs.declared.tree.Program.{Program}
use Rattle.c_tree.specs.Trees.{Forest}
use Rattle.c_tree.specs.Everywhere.{Everywhere}
use Rattle.c_tree.specs.InRange.{IsProgramInRange}
use Rattle.c_tree.specs.WellMade.{IsWellMade}
use Rattle.jump_meaning.specs.Code.{Code, items_of, code_of}
use Rattle.jump_meaning.specs.Runs.{SameBehaviour, BehaveTheSame}
use Rattle.jump_meaning.specs.Steady.{IsUnarmed, IsTopMadeWell, IsSteadyCode, IsSteady}
use Rattle.core_laws.specs.Core.{core_code}
use Rattle.core_laws.specs.Better.{LeCode}

-- a body is well made, or has no Arm, Leap and Land
abbrev pub IsMadeBody : Forest → Type 0
IsMadeBody b = IsWellMade b ⊎ Everywhere IsUnarmed b

-- each function has such a body
abbrev pub HasMadeBodies : Code → Type 0
HasMadeBodies p = (m : List ℕ) → IsMadeBody (items_of (p.functions m))

-- where a program is steady, one whose cores are the same, but for Arms that are gotos, is steady too and behaves the same
pub record CoreLaws : Type 0 where
  pub of_codes : (p q : Code) → HasMadeBodies p → HasMadeBodies q → LeCode (core_code p) (core_code q) → IsSteadyCode p → IsSteadyCode q × SameBehaviour p q
  pub of_programs : (p q : Program) → IsProgramInRange q → All IsTopMadeWell q.tops → LeCode (core_code (code_of p)) (core_code (code_of q)) →
      IsSteady p → IsSteady q × BehaveTheSame p q

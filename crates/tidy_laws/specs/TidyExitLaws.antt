-- The laws of this crate.
use Rattle.std.specs.Prelude.{ℕ, ℤ, List}
use Rattle.jump_meaning.specs.Code.{Code}
use Rattle.jump_meaning.specs.Behaviour.{AreSameRuns}
use Rattle.struct_meaning.specs.Runs.{structural_run}
use Rattle.tidy_laws.specs.Likeness.{LikeCode}
use Rattle.tidy_laws.specs.Steps.{LeavesOne}

-- both programs have the same structural runs: from every entry, on every input and list of answers
abbrev pub RunTheSame : Code → Code → Type 0
RunTheSame p q = (m : List ℕ) (arguments : List ℤ) (input : List ℕ) (answers : List ℤ)
    → AreSameRuns (structural_run p m arguments input answers) (structural_run q m arguments input answers)

pub record LeavingLaws : Type 0 where
  -- jumps that leave a turn after a set change nothing
  pub leaves : (p q : Code) → LikeCode LeavesOne p q → RunTheSame p q

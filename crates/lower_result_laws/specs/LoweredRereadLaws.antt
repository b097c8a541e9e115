-- What `lowered_reading_laws` states.
use Rattle.std.specs.Prelude.{ℕ, ◌≡◌, ◌⊎◌, List, Ok, Err}
use Rattle.c_types.specs.declared.refusal.Refusal.{Refusal}
use Rattle.c_tree.specs.declared.tree.Program.{Program}
use Rattle.c_tree.specs.Text.{text_of}
use Rattle.c_scopes.specs.Reading.{reading}
use Rattle.c_resolved_defs.specs.Limits as limits
use Rattle.c_resolved_defs.specs.Resolved.{IsResolvedWith}
use Rattle.c_resolved_defs.specs.Within.{Each}
use Rattle.c_statements.specs.Functions.{FlatCounts}
use Rattle.c_resolved_laws.specs.Counts.{flat_counts, IsResolved}
use Rattle.c_resolved_laws.specs.Laws.{HasText}
use Rattle.reread_program_laws.specs.RereadTextLaws.{counted}
use Rattle.lower_laws.specs.Lowering.{IsLoweredProgram}
use Rattle.lower_result_laws.specs.Modest.{IsModest}
use Rattle.lower_result_laws.specs.LoweredResolvedLaws.{IsTopUntangled}

-- the reason of a function that is too tangled
abbrev pub too_tangled : ℕ
too_tangled = 39

-- a text reads as the program, or has a function that is too tangled and no other fault
abbrev pub IsReadOrTangled : FlatCounts → List ℕ → Program → Type 0
IsReadOrTangled flat t p = (reading flat t ≡ Ok p) ⊎ ((refusal : Refusal) × ((reading flat t ≡ Err refusal) × (refusal.reason ≡ too_tangled)))

pub record LoweredReadingLaws : Type 0 where
  -- what a program is lowered to is one program
  pub one : (p q r : Program) → IsLoweredProgram p q → IsLoweredProgram p r → q ≡ r
  -- the text of a program that is resolved but for the measures of its flat forms has no fault but functions that are too tangled
  pub unmeasured : (flat : FlatCounts) (p : Program) → IsResolvedWith limits.no_counts p → HasText p → IsReadOrTangled flat (text_of p) p
  -- so has the text of what a modest resolved program is lowered to
  pub lowered : (counts : limits.FlatCounts) (p q : Program) → IsResolvedWith counts p → IsLoweredProgram p q → IsModest p →
      IsReadOrTangled counted (text_of q) q
  -- which reads back where none of its functions is too tangled
  pub reads_back : (p q : Program) → IsResolved p → IsLoweredProgram p q → IsModest p → Each (IsTopUntangled flat_counts) q.tops →
      reading counted (text_of q) ≡ Ok q

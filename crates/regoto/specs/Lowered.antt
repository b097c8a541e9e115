-- A text that is lowered.
use Rattle.std.specs.Prelude.{◌≡◌, ◌⊎◌, ℕ, List}
use Rattle.c_types.specs.declared.refusal.Refusal.{Refusal}
use Rattle.c_tree.specs.declared.tree.Program.{Program}
use Rattle.c_tree.specs.Text.{text_of}
use Rattle.c_resolved_defs.specs.Within.{Each}
use Rattle.jump_meaning.specs.Runs.{BehaveTheSame}
use Rattle.c_resolved_laws.specs.Counts.{flat_counts}
use Rattle.c_text.specs.Reading.{IsProgramOf, IsRefusedFor}
use Rattle.lower_laws.specs.Lowering.{IsLoweredProgram, program_gotos}
use Rattle.lower_result_laws.specs.Modest.{IsModest}
use Rattle.lower_result_laws.specs.LoweredResolvedLaws.{IsTopUntangled}
use Rattle.lower_result_laws.specs.LoweredRereadLaws.{too_tangled}
use Rattle.regoto.specs.declared.lowered_text.Lowered.{Lowered}

-- the text has the program, or is refused for a function that is too tangled
abbrev pub IsProgramOrTangled : List ℕ → Program → Type 0
IsProgramOrTangled t p = IsProgramOf t p ⊎ ((refusal : Refusal) × (IsRefusedFor t refusal × (refusal.reason ≡ too_tangled)))

-- the text has a program, and what is written is the text of that program lowered, and how many gotos this has
pub record IsTextLowered (t : List ℕ) (made : Lowered) : Type 0 where
  pub program : Program
  pub reads : IsProgramOf t program
  pub result : Program
  pub lowered : IsLoweredProgram program result
  pub text : made.text ≡ text_of result
  pub gotos : made.gotos ≡ program_gotos result
  -- from every entry, on every input and all answers, the programs behave the same
  pub behaves : BehaveTheSame program result
  -- where initialisers and selectors leave room for two counted tokens, the text that is written has no fault but functions
  -- that are too tangled
  pub faults : IsModest program → IsProgramOrTangled made.text result
  -- and where no function is too tangled, it has the lowered program
  pub reads_back : IsModest program → Each (IsTopUntangled flat_counts) result.tops → IsProgramOf made.text result

-- whatever the text is lowered to is this
abbrev pub IsOnlyText : List ℕ → Lowered → Type 0
IsOnlyText t made = (other : Lowered) → IsTextLowered t other → other ≡ made

-- A text whose guards are turned back into `break` and `continue`.
use Rattle.std.specs.Prelude.{◌≡◌, ℕ, ◌+◌, true, List, []}
use Rattle.c_tree.specs.declared.tree.Program.{Program}
use Rattle.c_tree.specs.Jumps.{is_plain_program}
use Rattle.c_tree.specs.Text.{text_of}
use Rattle.plain_laws.specs.Laws.{BehavesAsStructured}
use Rattle.c_text.specs.Reading.{IsProgramOf}
use Rattle.move_driver.specs.Restructured.{IsRestructured}
use Rattle.move_driver.specs.Settled.{no_counts}
use Rattle.tidy_laws.specs.Ends.{IsTidied, variables}
use Rattle.regoto.specs.declared.tidied_text.Tidied.{Tidied}
use Rattle.tidy_refusal.specs.TextJumps.{IsWithoutJumps}

-- The text is in the subset and has no jump. What is written is the text of the end to which the changes of its program's
-- plain form come, and how many changes these are. From every entry, on every input and all answers, that end ends, traps
-- or runs on as the program does.
pub record IsTextTidied (t : List ℕ) (made : Tidied) : Type 0 where
  pub unjumped : IsWithoutJumps t
  pub program : Program
  pub reads : IsProgramOf t program
  -- its plain form is what it is restructured to, by no moves: without labels, and with the ends of sections
  pub plain : Program
  pub restructured : IsRestructured program plain [] no_counts
  pub result : Program
  pub tidied : IsTidied plain made.changes result
  pub text : made.text ≡ text_of result
  -- it has no goto, no label and no nested case label
  pub jumpless : is_plain_program result ≡ true
  pub behaves : BehavesAsStructured program result
  -- what is written is a text of the subset, which has that program
  pub reads_back : IsProgramOf made.text result
  -- each change has taken one variable away, and none was added
  pub counted : made.changes + variables result.tops ≡ variables program.tops

-- whatever the text is tidied to is this
abbrev pub IsOnlyText : List ℕ → Tidied → Type 0
IsOnlyText t made = (other : Tidied) → IsTextTidied t other → other ≡ made

-- What the report of a rewriting does when it is replayed.
use Rattle.std.specs.Prelude.{◌≡◌, ℕ, List}
use Rattle.c_tree.specs.declared.tree.Program.{Program}
use Rattle.c_text.specs.Reading.{IsProgramOf}
use Rattle.move_driver.specs.Text.{Output, IsTextRestructured, CanBeReplayed}
use Rattle.cmd_files.specs.declared.translator.Translation.{Translation}
use Rattle.regoto.specs.Reports.{IsAccepted, IsReplayedTo}

-- the report is accepted with the program that the text has, and what it gives is the text that was written
pub record GivesTheSame (t : List ℕ) (out : Output) : Type 0 where
  pub accepted : (p : Program) → IsProgramOf t p → IsAccepted p out.report
  pub same : (p : Program) (made : Translation) → IsProgramOf t p → IsReplayedTo p out.report made → made.text ≡ out.text

-- so is the report of a text that was restructured
abbrev pub ReportLaw : Type 0
ReportLaw = (t : List ℕ) (out : Output) → IsTextRestructured t out → CanBeReplayed t out → GivesTheSame t out

-- A text that is restructured.
use Rattle.std.specs.Prelude.{◌≡◌, ℕ, true, List}
use Rattle.c_tree.specs.declared.tree.Program.{Program}
use Rattle.c_tree.specs.Jumps.{is_plain_program}
use Rattle.c_tree.specs.Text.{text_of}
use Rattle.c_text.specs.Reading.{IsProgramOf}
use Rattle.report_moves.specs.declared.moves.Move.{Move}
use Rattle.report_moves.specs.Report.{report_text}
use Rattle.move_report.specs.Numbers.{HaveNumbers}
use Rattle.plain_laws.specs.Laws.{BehavesAsStructured}
use Rattle.c_resolved_laws.specs.Counts.{IsResolved}
use Rattle.whole_laws.specs.Notes.{notes_of}
use Rattle.move_driver.specs.declared.counts.Counts.{Counts}
use Rattle.move_driver.specs.declared.text.Written.{Written}
use Rattle.move_driver.specs.Restructured.{IsRestructured}
use Rattle.move_driver.specs.Kept.{KeepsSkeletons, DeclaresFewGuards, IsMovedWithinLevels, StaysWithinSizes}

-- what a text is restructured to: another text, the report of the moves, and their counts
pub record Output : Type 0 where
  pub text : List ℕ
  pub report : List ℕ
  pub counts : Counts

abbrev pub output : Written → Output
output w = record { text = w.text; report = w.report; counts = w.counts }

-- The text has a program, and what is written is the text of the program that this is restructured to, without goto
-- and label, and the report of the moves. From every entry, on every input and all answers, that program ends, traps or
-- runs on as the first one does.
pub record IsTextRestructured (t : List ℕ) (out : Output) : Type 0 where
  pub program : Program
  pub reads : IsProgramOf t program
  pub result : Program
  pub moves : List Move
  pub restructured : IsRestructured program result moves out.counts
  pub text : out.text ≡ text_of result
  pub report : out.report ≡ report_text moves
  pub plain : is_plain_program result ≡ true
  pub behaves : BehavesAsStructured program result
  -- and what is written is a text of the subset, which has that program
  pub reads_back : IsProgramOf out.text result
  -- what it keeps of the first, and its bounds
  pub skeletons : KeepsSkeletons program result moves
  pub guards : DeclaresFewGuards program result moves
  pub levels : IsMovedWithinLevels program result moves
  pub sizes : StaysWithinSizes program result
  -- it has the same Notes in the same order
  pub notes : notes_of result ≡ notes_of program

-- its program is resolved, and the numbers of its moves can be written
abbrev pub CanBeReplayed : List ℕ → Output → Type 0
CanBeReplayed t out = (r : IsTextRestructured t out) → IsResolved r.program × HaveNumbers r.moves

-- whatever the text is restructured to is this
abbrev pub IsOnlyOutput : List ℕ → Output → Type 0
IsOnlyOutput t out = (other : Output) → IsTextRestructured t other → other ≡ out

-- What a command does that runs the program of a file.
use Rattle.std.specs.Prelude.{◌≡◌, ℕ, ◌⊎◌, ◌≤◌, List, [], length, codes, Option, Some}
use Rattle.std.specs.FinMap.{get}
use Rattle.c_types.specs.declared.refusal.Refusal.{Refusal}
use Rattle.c_tree.specs.declared.tree.Program.{Program}
use Rattle.jump_meaning.specs.Behaviour.{Shown, Ended, Trapped, More}
use Rattle.jump_meaning.specs.Code.{code_of}
use Rattle.jump_meaning.specs.Runs.{jump_run}
use Rattle.rg_ports.specs.Count.{Rose}
use Rattle.rg_ports.specs.Files.{Files}
use Rattle.rg_ports.specs.declared.reads.ReadCounts.{ReadCounts}
use Rattle.rg_ports.specs.Written.{Written}
use Rattle.cmd_words.specs.declared.status.Status.{Status}
use Rattle.cmd_words.specs.declared.status.Status.TheVariants as status
use Rattle.cmd_words.specs.Lines.{ended_line, trap_line, spent_line, read_line, write_line, memory_line}
use Rattle.cmd_files.specs.Taken.{HandsOver}
use Rattle.step_interp.specs.declared.runs.RunAnswer.{RunAnswer}
use Rattle.step_interp.specs.declared.runs.RunAnswer.TheVariants as answer
use Rattle.step_interp.specs.Answers.{AnswersOver}
use Rattle.regoto.specs.Runnable.{main_entry, IsRunnable, Unrun}

-- how the command ends, by what became of the run
abbrev pub status_of : RunAnswer → Status
status_of (answer.Ended value n) = status.Done
status_of (answer.Trapped trap n) = status.Trapped trap
status_of answer.Spent = status.Spent
status_of answer.ReadFault = status.ReadFault
status_of answer.WriteFault = status.WriteFault
status_of answer.Memory = status.Memory

-- and what it tells of it
abbrev pub line_of : ℕ → RunAnswer → List ℕ
line_of steps (answer.Ended value n) = ended_line value
line_of steps (answer.Trapped trap n) = trap_line trap
line_of steps answer.Spent = spent_line steps
line_of steps answer.ReadFault = read_line
line_of steps answer.WriteFault = write_line
line_of steps answer.Memory = memory_line

-- The program was run from `main`: what became of that run, with what the source told was left and what the sink told was
-- written, before and after; a fault came only where its count rose.
pub record Ran (said : List ℕ → Type 0) (steps : ℕ) (rest left : Option (List ℕ)) (inputs inputs' : ℕ) (out out' : Written) (faults faults' : ℕ)
    (result : Status) (program : Program) : Type 0 where
  pub became : RunAnswer
  pub ends : result ≡ status_of became
  pub answers : AnswersOver program main_entry steps became rest left out out'
  pub read_fault : became ≡ answer.ReadFault → Rose inputs inputs'
  pub write_fault : became ≡ answer.WriteFault → Rose faults faults'
  pub line : said (line_of steps became)

-- the text of the file reads as a program that can be run, and the fact holds of that program
pub record HasProgram (gives : List ℕ → Program → Type 0) (from : List ℕ) (before : Option Files) (P : Program → Type 0) : Type 0 where
  pub program : Program
  pub read : HandsOver before from (λ text. (length text ≤ 67108864) × gives text program)
  pub runnable : IsRunnable program
  pub next : P program

-- Each status of a command that runs the program of a file; `untouched` says that nothing was done to the source and the
-- sink.
abbrev pub Runs : (List ℕ → Type 0) → (List ℕ → Program → Type 0) → (List ℕ → Refusal → Type 0) → List ℕ → ℕ → Option Files → ReadCounts → ReadCounts
    → Type 0 → Option (List ℕ) → Option (List ℕ) → ℕ → ℕ → Written → Written → ℕ → ℕ → Status → Type 0
Runs said gives refuses from steps before reads reads' untouched rest left inputs inputs' out out' faults faults' result =
    HasProgram gives from before (Ran said steps rest left inputs inputs' out out' faults faults' result)
    ⊎ (untouched × Unrun said gives refuses from before reads reads' result)

-- ---- completeness

-- the status that a run shows once all steps are made
abbrev pub shown_status : Shown → Status
shown_status (Ended value es) = status.Done
shown_status (Trapped trap es) = status.Trapped trap
shown_status (More es) = status.Spent

-- Where the shelf holds a text of at most 67,108,864 bytes that reads as a program that can be run, the source tells its
-- bytes, and no read or write fails, the status is the one that the run shows, or memory is refused.
abbrev pub CompletesRun : (List ℕ → Program → Type 0) → List ℕ → ℕ → Option Files → ReadCounts → ReadCounts → Option (List ℕ) → ℕ → ℕ → ℕ → ℕ → Status → Type 0
CompletesRun gives from steps before reads reads' rest inputs inputs' faults faults' result =
    (files : Files) (text : List ℕ) (program : Program) (input : List ℕ) → before ≡ Some files → get files from ≡ Some text → length text ≤ 67108864
    → gives text program → IsRunnable program → rest ≡ Some input
    → ¬ Rose reads.faults reads'.faults → ¬ Rose inputs inputs' → ¬ Rose faults faults'
    → (result ≡ shown_status (jump_run (code_of program) (codes "main") [] input [] steps)) ⊎ (result ≡ status.Memory)

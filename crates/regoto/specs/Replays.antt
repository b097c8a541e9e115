-- What a command does that makes the moves of a report in the program of a file.
use Rattle.std.specs.Prelude.{◌≡◌, ℕ, ◌⊎◌, ◌≤◌, List, length, Option, Some}
use Rattle.std.specs.FinMap.{get}
use Rattle.c_types.specs.declared.refusal.Refusal.{Refusal}
use Rattle.c_tree.specs.declared.tree.Program.{Program}
use Rattle.rg_ports.specs.Count.{Rose}
use Rattle.rg_ports.specs.Files.{Files}
use Rattle.rg_ports.specs.declared.reads.ReadCounts.{ReadCounts}
use Rattle.rg_ports.specs.Reads.{IsOneRead}
use Rattle.cmd_words.specs.declared.status.Status.{Status}
use Rattle.cmd_words.specs.declared.status.Status.TheVariants as status
use Rattle.cmd_files.specs.declared.translator.Translation.{Translation}
use Rattle.cmd_files.specs.Taken.{HandsOver}
use Rattle.cmd_files.specs.Translated.{Untranslated}
use Rattle.regoto.specs.Replayed.{ReplaysIn}

-- the text of the file reads as this program, and the command went on with it
pub record HasProgram (reads : List ℕ → Program → Type 0) (from : List ℕ) (before : Option Files) (P : Program → Type 0) : Type 0 where
  pub program : Program
  pub text : HandsOver before from (λ text. (length text ≤ 1048576) × reads text program)
  pub next : P program

-- Each status, with what it says of the files before and after, of the counts of failed reads and writes before and after, and
-- of the line that was said. The report is looked at only where the text has a program.
abbrev pub Replays : (List ℕ → Type 0) → (List ℕ → Program → Type 0) → (List ℕ → Refusal → Type 0)
    → (Program → List ℕ → Translation → Type 0) → (Program → List ℕ → Refusal → Type 0) → List ℕ → List ℕ → List ℕ
    → Option Files → Option Files → ReadCounts → ReadCounts → ℕ → ℕ → Status → Type 0
Replays said reads refuses gives rejects from report to before after counts counts' writes writes' status =
    HasProgram reads from before (λ p. ReplaysIn said (gives p) (rejects p) report to before after counts counts' writes writes' status)
    ⊎ ((after ≡ before) × IsOneRead counts counts' × Untranslated said refuses from before counts counts' status)

-- Where the shelf holds a text of at most 1,048,576 bytes that reads as a program and a report of at most 67,108,864 bytes
-- that this accepts, and no read or write fails, the job is done or memory is refused.
abbrev pub CompletesReplay : (List ℕ → Program → Type 0) → (Program → List ℕ → Type 0) → List ℕ → List ℕ → Option Files → ReadCounts → ReadCounts →
    ℕ → ℕ → Status → Type 0
CompletesReplay reads accepts from report before counts counts' writes writes' result =
    (files : Files) (text : List ℕ) (p : Program) (lines : List ℕ) → before ≡ Some files → get files from ≡ Some text → length text ≤ 1048576
    → reads text p → get files report ≡ Some lines → length lines ≤ 67108864 → accepts p lines
    → ¬ Rose counts.faults counts'.faults → ¬ Rose writes writes' → (result ≡ status.Done) ⊎ (result ≡ status.Memory)

-- What the report of a file makes of a program.
use Rattle.std.specs.Prelude.{◌≡◌, ℕ, ◌⊎◌, ◌<◌, ◌≤◌, List, length, Option, Some, None}
use Rattle.std.specs.FinMap.{get}
use Rattle.c_types.specs.declared.refusal.Refusal.{Refusal}
use Rattle.rg_ports.specs.Count.{Rose}
use Rattle.rg_ports.specs.Files.{Files}
use Rattle.rg_ports.specs.declared.reads.ReadCounts.{ReadCounts}
use Rattle.cmd_words.specs.declared.status.Status.{Status}
use Rattle.cmd_words.specs.declared.status.Status.TheVariants as status
use Rattle.cmd_words.specs.Lines.{refusal_line, memory_line}
use Rattle.cmd_files.specs.declared.translator.Translation.{Translation}
use Rattle.cmd_files.specs.Taken.{HandsOver, IsAbsent, IsReadFault, too_long}
use Rattle.cmd_files.specs.Written.{Puts}

-- why a report is refused: it has more than 67,108,864 bytes, or else for its own fault
abbrev pub IsTooLongOrRejected : (List ℕ → Refusal → Type 0) → Refusal → List ℕ → Type 0
IsTooLongOrRejected rejects refusal text = ((67108864 < length text) × (refusal ≡ too_long)) ⊎ ((length text ≤ 67108864) × rejects text refusal)

-- the report is refused, for this reason and at this place, and the line names its file
pub record IsRejected (said : List ℕ → Type 0) (rejects : List ℕ → Refusal → Type 0) (report : List ℕ) (before : Option Files) (refusal : Refusal) :
    Type 0 where
  pub reason : HandsOver before report (IsTooLongOrRejected rejects refusal)
  pub line : said (refusal_line report refusal)

-- Why a report makes nothing of a program, by the status, and the line that was said.
abbrev pub Unreplayed : (List ℕ → Type 0) → (List ℕ → Refusal → Type 0) → List ℕ → Option Files → ReadCounts → ReadCounts → Status → Type 0
Unreplayed said rejects report before reads reads' (status.Refused refusal) = IsRejected said rejects report before refusal
Unreplayed said rejects report before reads reads' status.Absent = IsAbsent said report before reads reads'
Unreplayed said rejects report before reads reads' status.ReadFault = IsReadFault said reads reads'
Unreplayed said rejects report before reads reads' status.Memory = said memory_line
-- no other status comes
Unreplayed said rejects report before reads reads' status.Done = ⊥
Unreplayed said rejects report before reads reads' status.Usage = ⊥
Unreplayed said rejects report before reads reads' status.WriteFault = ⊥
Unreplayed said rejects report before reads reads' (status.Trapped trap) = ⊥
Unreplayed said rejects report before reads reads' status.Spent = ⊥

-- the file holds a report that can be read, which makes this of the program, and the write of it left what it left
pub record IsReplayed (said : List ℕ → Type 0) (gives : List ℕ → Translation → Type 0) (report to : List ℕ) (before after : Option Files) (writes writes' : ℕ)
    (status : Status) : Type 0 where
  pub made : Translation
  pub gives_it : HandsOver before report (λ text. (length text ≤ 67108864) × gives text made)
  pub left : Puts said to None before after writes writes' made status

-- The report made something of the program, which was written; or it didn't, no file changed, and this is why.
abbrev pub ReplaysIn : (List ℕ → Type 0) → (List ℕ → Translation → Type 0) → (List ℕ → Refusal → Type 0) → List ℕ → List ℕ
    → Option Files → Option Files → ReadCounts → ReadCounts → ℕ → ℕ → Status → Type 0
ReplaysIn said gives rejects report to before after reads reads' writes writes' status =
    IsReplayed said gives report to before after writes writes' status ⊎ ((after ≡ before) × Unreplayed said rejects report before reads reads' status)

-- Where the shelf holds a report that is accepted and has at most 67,108,864 bytes, and no read or write fails, the job is
-- done or memory is refused.
abbrev pub CompletesReport : (List ℕ → Type 0) → List ℕ → Option Files → ReadCounts → ReadCounts → ℕ → ℕ → Status → Type 0
CompletesReport accepts report before reads reads' writes writes' result =
    (files : Files) (text : List ℕ) → before ≡ Some files → get files report ≡ Some text → length text ≤ 67108864 → accepts text
    → ¬ Rose reads.faults reads'.faults → ¬ Rose writes writes' → (result ≡ status.Done) ⊎ (result ≡ status.Memory)

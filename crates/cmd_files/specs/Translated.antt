-- What becomes of the text of a file.
use Rattle.std.specs.Prelude.{◌≡◌, ℕ, ◌⊎◌, ◌<◌, ◌≤◌, List, length, Option, Some}
use Rattle.std.specs.FinMap.{get}
use Rattle.c_types.specs.declared.refusal.Refusal.{Refusal}
use Rattle.rg_ports.specs.Count.{Rose}
use Rattle.rg_ports.specs.Files.{Files}
use Rattle.rg_ports.specs.declared.reads.ReadCounts.{ReadCounts}
use Rattle.cmd_words.specs.declared.status.Status.{Status}
use Rattle.cmd_words.specs.declared.status.Status.TheVariants as status
use Rattle.cmd_words.specs.Lines.{refusal_line, memory_line}
use Rattle.cmd_files.specs.declared.translator.Translation.{Translation}
use Rattle.cmd_files.specs.declared.translator.Part.{Part}
use Rattle.cmd_files.specs.declared.translator.Part.TheVariants as part
use Rattle.cmd_files.specs.Taken.{HandsOver, IsAbsent, IsReadFault, too_long}

abbrev pub part_of : Part → Translation → List ℕ
part_of part.Text translation = translation.text
part_of part.Report translation = translation.report

-- the file holds a text that can be read, and this becomes of it
abbrev pub Becomes : (List ℕ → Translation → Type 0) → List ℕ → Option Files → Translation → Type 0
Becomes gives from before translation = HandsOver before from (λ text. (length text ≤ 1048576) × gives text translation)

-- why a text is refused: it has more than 1,048,576 bytes, or else for its own fault
abbrev pub IsTooLongOrRefused : (List ℕ → Refusal → Type 0) → Refusal → List ℕ → Type 0
IsTooLongOrRefused refuses refusal text = ((1048576 < length text) × (refusal ≡ too_long)) ⊎ ((length text ≤ 1048576) × refuses text refusal)

-- the text is refused, for this reason and at this place
pub record IsRefused (said : List ℕ → Type 0) (refuses : List ℕ → Refusal → Type 0) (from : List ℕ) (before : Option Files) (refusal : Refusal) : Type 0 where
  pub reason : HandsOver before from (IsTooLongOrRefused refuses refusal)
  pub line : said (refusal_line from refusal)

-- Why a command ends without a translation, by its status, and the line that was said.
abbrev pub Untranslated : (List ℕ → Type 0) → (List ℕ → Refusal → Type 0) → List ℕ → Option Files → ReadCounts → ReadCounts → Status → Type 0
Untranslated said refuses from before reads reads' (status.Refused refusal) = IsRefused said refuses from before refusal
Untranslated said refuses from before reads reads' status.Absent = IsAbsent said from before reads reads'
Untranslated said refuses from before reads reads' status.ReadFault = IsReadFault said reads reads'
Untranslated said refuses from before reads reads' status.Memory = said memory_line
-- no other status comes
Untranslated said refuses from before reads reads' status.Done = ⊥
Untranslated said refuses from before reads reads' status.Usage = ⊥
Untranslated said refuses from before reads reads' status.WriteFault = ⊥
Untranslated said refuses from before reads reads' (status.Trapped trap) = ⊥
Untranslated said refuses from before reads reads' status.Spent = ⊥

-- the text of the file was translated, and the command went on with what became of it
pub record GoesOn (gives : List ℕ → Translation → Type 0) (from : List ℕ) (before : Option Files) (P : Translation → Type 0) : Type 0 where
  pub translation : Translation
  pub becomes : Becomes gives from before translation
  pub next : P translation

-- The text of the file was translated, and the command went on; or it wasn't, nothing was touched, and the command ended so.
abbrev pub Translates : (List ℕ → Type 0) → (List ℕ → Translation → Type 0) → (List ℕ → Refusal → Type 0) → List ℕ → Option Files → ReadCounts → ReadCounts
    → (Translation → Type 0) → Type 0 → Status → Type 0
Translates said gives refuses from before reads reads' P untouched status =
    GoesOn gives from before P ⊎ (untouched × Untranslated said refuses from before reads reads' status)

-- Where the shelf holds a text under the name that is accepted and has at most 1,048,576 bytes, and no read or write
-- fails, the job is done or memory is refused.
abbrev pub Completes : (List ℕ → Type 0) → List ℕ → Option Files → ReadCounts → ReadCounts → ℕ → ℕ → Status → Type 0
Completes accepts from before reads reads' writes writes' result =
    (files : Files) (text : List ℕ) → before ≡ Some files → get files from ≡ Some text → length text ≤ 1048576 → accepts text
    → ¬ Rose reads.faults reads'.faults → ¬ Rose writes writes' → (result ≡ status.Done) ⊎ (result ≡ status.Memory)

-- What a command takes from the shelf.
use Rattle.std.specs.Prelude.{◌≡◌, ℕ, ◌<◌, List, length, Option, None, Some}
use Rattle.std.specs.FinMap.{get}
use Rattle.c_types.specs.declared.refusal.Refusal.{Refusal}
use Rattle.rg_ports.specs.Count.{Rose}
use Rattle.rg_ports.specs.Files.{Files}
use Rattle.rg_ports.specs.declared.reads.ReadCounts.{ReadCounts}
use Rattle.cmd_words.specs.declared.status.Status.{Status}
use Rattle.cmd_words.specs.declared.status.Status.TheVariants as status
use Rattle.cmd_words.specs.Lines.{refusal_line, memory_line, read_line, absent_line}

abbrev pub too_long : Refusal
too_long = record { reason = 1; line = 1; column = 1; at = 0 }

-- The shelf handed over a text of which the fact holds; where it tells its files, it holds that text under the name.
abbrev pub HandsOver : Option Files → List ℕ → (List ℕ → Type 0) → Type 0
HandsOver None from P = (text : List ℕ) × P text
HandsOver (Some files) from P = (text : List ℕ) × (get files from ≡ Some text) × P text

-- where the shelf tells its files, none has the name
abbrev pub Lacks : Option Files → List ℕ → Type 0
Lacks None from = Unit {0}
Lacks (Some files) from = get files from ≡ None

-- the text has more bytes than the command takes
pub record IsTooLong (said : List ℕ → Type 0) (most : ℕ) (from : List ℕ) (before : Option Files) (refusal : Refusal) : Type 0 where
  pub which : refusal ≡ too_long
  pub text : HandsOver before from (λ text. most < length text)
  pub line : said (refusal_line from too_long)

-- the shelf found no file of the name
pub record IsAbsent (said : List ℕ → Type 0) (from : List ℕ) (before : Option Files) (reads reads' : ReadCounts) : Type 0 where
  pub lacks : Lacks before from
  pub rose : Rose reads.absences reads'.absences
  pub line : said (absent_line from)

-- a read failed
pub record IsReadFault (said : List ℕ → Type 0) (reads reads' : ReadCounts) : Type 0 where
  pub rose : Rose reads.faults reads'.faults
  pub line : said read_line

-- Why a command ends that takes no text, by its status, and the line that was said.
abbrev pub Untaken : (List ℕ → Type 0) → ℕ → List ℕ → Option Files → ReadCounts → ReadCounts → Status → Type 0
Untaken said most from before reads reads' (status.Refused refusal) = IsTooLong said most from before refusal
Untaken said most from before reads reads' status.Absent = IsAbsent said from before reads reads'
Untaken said most from before reads reads' status.ReadFault = IsReadFault said reads reads'
Untaken said most from before reads reads' status.Memory = said memory_line
-- no other status comes
Untaken said most from before reads reads' status.Done = ⊥
Untaken said most from before reads reads' status.Usage = ⊥
Untaken said most from before reads reads' status.WriteFault = ⊥
Untaken said most from before reads reads' (status.Trapped trap) = ⊥
Untaken said most from before reads reads' status.Spent = ⊥

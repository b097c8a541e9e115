-- What a command writes to the shelf.
use Rattle.std.specs.Prelude.{◌≡◌, ℕ, ◌⊎◌, List, Option, None, Some, option_map}
use Rattle.std.specs.FinMap.{insert}
use Rattle.c_types.specs.declared.refusal.Refusal.{Refusal}
use Rattle.rg_ports.specs.Count.{Rose}
use Rattle.rg_ports.specs.declared.reads.ReadCounts.{ReadCounts}
use Rattle.rg_ports.specs.Files.{Files, HoldsPrefix}
use Rattle.cmd_words.specs.declared.status.Status.{Status}
use Rattle.cmd_words.specs.declared.status.Status.TheVariants as status
use Rattle.cmd_words.specs.Lines.{summary_line, memory_line, write_line}
use Rattle.cmd_files.specs.declared.translator.Translation.{Translation}
use Rattle.cmd_files.specs.Translated.{Translates}

-- the files with these bytes under a name
abbrev pub holding : List ℕ → List ℕ → Option Files → Option Files
holding name bytes files = option_map (λ held. insert held name bytes) files

-- the text was written first, and then the report where one is asked for
abbrev pub written : List ℕ → Option (List ℕ) → Translation → Option Files → Option Files
written to None translation files = holding to translation.text files
written to (Some report) translation files = holding report translation.report (holding to translation.text files)

-- what the shelf holds where its write failed: the text or a prefix of it, or the whole text and the report or a prefix of it
abbrev pub Stops : List ℕ → Option (List ℕ) → Translation → Option Files → Option Files → Type 0
Stops to None translation before after = HoldsPrefix before after to translation.text
Stops to (Some report) translation before after = HoldsPrefix before after to translation.text ⊎ HoldsPrefix (holding to translation.text before)
    after report translation.report

-- what the shelf holds where it had no memory for a write: all is as before, or the text is written and the report isn't
abbrev pub Lingers : List ℕ → Option (List ℕ) → Translation → Option Files → Option Files → Type 0
Lingers to None translation before after = after ≡ before
Lingers to (Some report) translation before after = (after ≡ before) ⊎ (after ≡ holding to translation.text before)

-- Why memory was refused, by the count of writes that were refused it: before the first write, or by a write. So where a file
-- has changed, it was the write of the report that was refused memory.
abbrev pub Wanted : Option Files → Option Files → ℕ → ℕ → Type 0
Wanted before after wants wants' = ((after ≡ before) × (wants' ≡ wants)) ⊎ Rose wants wants'

-- the text was written, and the report, and no other file changed
pub record IsDone (said : List ℕ → Type 0) (to : List ℕ) (report : Option (List ℕ)) (before after : Option Files) (translation : Translation) : Type 0 where
  pub written : after ≡ written to report translation before
  pub line : said (summary_line translation.summary)

-- a write failed, of the text or behind it of the report, and no other file changed
pub record IsWriteFault (said : List ℕ → Type 0) (to : List ℕ) (report : Option (List ℕ)) (before after : Option Files) (writes writes' : ℕ)
    (translation : Translation) : Type 0 where
  pub rose : Rose writes writes'
  pub stops : Stops to report translation before after
  pub line : said write_line

-- memory was refused, and of the files only the text has changed, if any
pub record IsMemory (said : List ℕ → Type 0) (to : List ℕ) (report : Option (List ℕ)) (before after : Option Files) (translation : Translation) : Type 0 where
  pub lingers : Lingers to report translation before after
  pub line : said memory_line

-- What the write of a translation leaves, by the status.
abbrev pub Puts : (List ℕ → Type 0) → List ℕ → Option (List ℕ) → Option Files → Option Files → ℕ → ℕ → Translation → Status → Type 0
Puts said to report before after writes writes' translation status.Done = IsDone said to report before after translation
Puts said to report before after writes writes' translation status.WriteFault = IsWriteFault said to report before after writes writes' translation
Puts said to report before after writes writes' translation status.Memory = IsMemory said to report before after translation
-- no other status comes
Puts said to report before after writes writes' translation (status.Refused refusal) = ⊥
Puts said to report before after writes writes' translation status.Usage = ⊥
Puts said to report before after writes writes' translation status.ReadFault = ⊥
Puts said to report before after writes writes' translation (status.Trapped trap) = ⊥
Puts said to report before after writes writes' translation status.Spent = ⊥
Puts said to report before after writes writes' translation status.Absent = ⊥

-- Each status of a command that writes what becomes of a file's text, with what it says of the files before and after, of
-- the counts of failed reads and writes before and after, and of the line that was said.
abbrev pub Writes : (List ℕ → Type 0) → (List ℕ → Translation → Type 0) → (List ℕ → Refusal → Type 0)
    → List ℕ → List ℕ → Option (List ℕ) → Option Files → Option Files → ReadCounts → ReadCounts → ℕ → ℕ → Status → Type 0
Writes said gives refuses from to report before after reads reads' writes writes' status =
    Translates said gives refuses from before reads reads' (λ translation. Puts said to report before after writes writes' translation status)
    (after ≡ before) status

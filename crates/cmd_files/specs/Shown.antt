-- What a command writes to `out`.
use Rattle.std.specs.Prelude.{◌≡◌, ℕ, List, Option}
use Rattle.c_types.specs.declared.refusal.Refusal.{Refusal}
use Rattle.rg_ports.specs.Count.{Rose}
use Rattle.rg_ports.specs.Files.{Files}
use Rattle.rg_ports.specs.declared.reads.ReadCounts.{ReadCounts}
use Rattle.rg_ports.specs.Written.{Written, more, FrontWritten}
use Rattle.cmd_words.specs.declared.status.Status.{Status}
use Rattle.cmd_words.specs.declared.status.Status.TheVariants as status
use Rattle.cmd_words.specs.Lines.{Tells, write_line}
use Rattle.cmd_files.specs.declared.translator.Translation.{Translation}
use Rattle.cmd_files.specs.declared.translator.Part.{Part}
use Rattle.cmd_files.specs.Translated.{Translates, part_of}

-- all the bytes were written, and nothing was told
pub record IsDone (bytes : List ℕ) (out out' err err' : Written) : Type 0 where
  pub all : out' ≡ more out bytes
  pub silent : err' ≡ err

-- a write failed: a front of the bytes was written, but not all
pub record IsWriteFault (bytes : List ℕ) (out out' : Written) (faults faults' : ℕ) (err err' : Written) (told told' : ℕ) : Type 0 where
  pub front : FrontWritten out out' bytes
  pub rose : Rose faults faults'
  pub line : Tells err err' told told' write_line

-- What is left of `out` and `err` where the bytes are written to `out`, by the status.
abbrev pub Hands : List ℕ → Written → Written → ℕ → ℕ → Written → Written → ℕ → ℕ → Status → Type 0
Hands bytes out out' faults faults' err err' told told' status.Done = IsDone bytes out out' err err'
Hands bytes out out' faults faults' err err' told told' status.WriteFault = IsWriteFault bytes out out' faults faults' err err' told told'
-- no other status comes
Hands bytes out out' faults faults' err err' told told' (status.Refused refusal) = ⊥
Hands bytes out out' faults faults' err err' told told' status.Usage = ⊥
Hands bytes out out' faults faults' err err' told told' status.Memory = ⊥
Hands bytes out out' faults faults' err err' told told' status.ReadFault = ⊥
Hands bytes out out' faults faults' err err' told told' (status.Trapped trap) = ⊥
Hands bytes out out' faults faults' err err' told told' status.Spent = ⊥
Hands bytes out out' faults faults' err err' told told' status.Absent = ⊥

-- Each status of a command that writes to `out` what becomes of a file's text, or the report; `untouched` says that nothing was
-- done to `out`.
abbrev pub Shows : (List ℕ → Translation → Type 0) → (List ℕ → Refusal → Type 0) → List ℕ → Part → Option Files → ReadCounts → ReadCounts
    → Type 0 → Written → Written → ℕ → ℕ → Written → Written → ℕ → ℕ → Status → Type 0
Shows gives refuses from part before reads reads' untouched out out' faults faults' err err' told told' status =
    Translates (λ line. Tells err err' told told' line) gives refuses from before reads reads'
    (λ translation. Hands (part_of part translation) out out' faults faults' err err' told told' status) untouched status

-- Which programs can be run from `main`, and why a text can't.
use Rattle.std.specs.Prelude.{◌≡◌, ℕ, ◌⊎◌, ◌<◌, ◌≤◌, true, false, List, [], length, codes, Option, IsSome}
use Rattle.c_types.specs.declared.refusal.Refusal.{Refusal}
use Rattle.c_tree.specs.declared.tree.Program.{Program}
use Rattle.jump_meaning.specs.Code.{code_of, function_named}
use Rattle.jump_meaning.specs.Runs.{IsEntry}
use Rattle.step_open_calls.specs.Calls.{has_open_call}
use Rattle.rg_ports.specs.Files.{Files}
use Rattle.rg_ports.specs.declared.reads.ReadCounts.{ReadCounts}
use Rattle.cmd_words.specs.declared.status.Status.{Status}
use Rattle.cmd_words.specs.declared.status.Status.TheVariants as status
use Rattle.cmd_words.specs.Lines.{refusal_line, memory_line}
use Rattle.cmd_files.specs.Taken.{HandsOver, IsAbsent, IsReadFault, too_long}
use Rattle.step_interp.specs.declared.entry.Entry.{Entry}

-- the run begins in `main`, without arguments
abbrev pub main_entry : Entry
main_entry = record { function = codes "main"; arguments = [] }

-- a `main` with a body
abbrev pub HasMain : Program → Type 0
HasMain p = IsSome (function_named (codes "main") p.tops).body

-- what is needed of a program with a `main`
abbrev pub EntersMain : Program → Type 0
EntersMain p = HasMain p → IsEntry (code_of p) (codes "main") []

abbrev pub no_main : Refusal
no_main = record { reason = 41; line = 1; column = 1; at = 0 }

abbrev pub open_call : Refusal
open_call = record { reason = 42; line = 1; column = 1; at = 0 }

-- it has a `main` with a body, and each function that it calls has one, or is one of the library's
pub record IsRunnable (p : Program) : Type 0 where
  pub main : HasMain p
  pub closed : has_open_call p ≡ false

-- no `main` has a body, or else a call names a function without a body
abbrev pub IsBlocked : Program → Refusal → Type 0
IsBlocked p refusal = ((¬ (HasMain p)) × (refusal ≡ no_main)) ⊎ (HasMain p × (has_open_call p ≡ true) × (refusal ≡ open_call))

-- why a text isn't run: for its own fault, or for that of its program
abbrev pub IsUnfit : (List ℕ → Program → Type 0) → (List ℕ → Refusal → Type 0) → Refusal → List ℕ → Type 0
IsUnfit gives refuses refusal text = refuses text refusal ⊎ ((p : Program) × gives text p × IsBlocked p refusal)

-- it has more than 67,108,864 bytes, or else it is unfit
abbrev pub IsTooLongOrUnfit : (List ℕ → Program → Type 0) → (List ℕ → Refusal → Type 0) → Refusal → List ℕ → Type 0
IsTooLongOrUnfit gives refuses refusal text = ((67108864 < length text) × (refusal ≡ too_long)) ⊎
    ((length text ≤ 67108864) × IsUnfit gives refuses refusal text)

-- the text is refused, for this reason and at this place
pub record IsRefusedToRun (said : List ℕ → Type 0) (gives : List ℕ → Program → Type 0) (refuses : List ℕ → Refusal → Type 0) (from : List ℕ)
    (before : Option Files) (refusal : Refusal) : Type 0 where
  pub reason : HandsOver before from (IsTooLongOrUnfit gives refuses refusal)
  pub line : said (refusal_line from refusal)

-- Why a command ends without a run, by its status, and the line that was said.
abbrev pub Unrun : (List ℕ → Type 0) → (List ℕ → Program → Type 0) → (List ℕ → Refusal → Type 0) → List ℕ → Option Files → ReadCounts → ReadCounts →
    Status → Type 0
Unrun said gives refuses from before reads reads' (status.Refused refusal) = IsRefusedToRun said gives refuses from before refusal
Unrun said gives refuses from before reads reads' status.Absent = IsAbsent said from before reads reads'
Unrun said gives refuses from before reads reads' status.ReadFault = IsReadFault said reads reads'
Unrun said gives refuses from before reads reads' status.Memory = said memory_line
-- no other status comes
Unrun said gives refuses from before reads reads' status.Done = ⊥
Unrun said gives refuses from before reads reads' status.Usage = ⊥
Unrun said gives refuses from before reads reads' status.WriteFault = ⊥
Unrun said gives refuses from before reads reads' (status.Trapped trap) = ⊥
Unrun said gives refuses from before reads reads' status.Spent = ⊥

-- what was read can't be run for this reason, and the status says so
abbrev pub Unfit : (List ℕ → Type 0) → (Refusal → Type 0) → List ℕ → Status → Type 0
Unfit said reason from (status.Refused refusal) = reason refusal × said (refusal_line from refusal)
Unfit said reason from status.Memory = said memory_line
Unfit said reason from _ = ⊥

-- Where a text is there that can be run, and no call on a port fails, the status is the one that the run shows, but for want
-- of memory.
use Rattle.std.proofs.Common.{◌≡◌, ℕ, ◌≤◌, ◌⊎◌, List, length, Option, Some, inl, inr, refl, sym, ap, subst, ◌∙◌, arith}
use Rattle.std.proofs.lemmas.Bool.{false≢true}
use Rattle.std.specs.FinMap.{get}
use Rattle.c_types.specs.declared.refusal.Refusal.{Refusal}
use Rattle.c_tree.specs.declared.tree.Program.{Program}
use Rattle.jump_meaning.specs.Behaviour.{Shown}
use Rattle.rg_ports.specs.Files.{Files}
use Rattle.rg_ports.specs.declared.reads.ReadCounts.{ReadCounts}
use Rattle.cmd_words.specs.declared.status.Status.{Status}
use Rattle.cmd_words.specs.declared.status.Status.TheVariants as status
use Rattle.cmd_files.specs.Taken.{HandsOver}
use Rattle.cmd_files.proofs.Completion.{lacking}
use Rattle.step_interp.specs.declared.runs.RunAnswer.{RunAnswer}
use Rattle.step_interp.specs.declared.runs.RunAnswer.TheVariants as answer
use Rattle.step_interp.specs.Answers.{Agrees}
use Rattle.regoto.specs.Runnable.{IsRunnable, IsBlocked, IsUnfit, IsTooLongOrUnfit, Unrun, Unfit}
use Rattle.regoto.specs.Ran.{CompletesRun, status_of, shown_status}

-- what is said of a run that agrees
pub agreed : (a : RunAnswer) (s : Shown) → Agrees a s → (status_of a ≡ shown_status s) ⊎ (status_of a ≡ status.Memory)
agreed (answer.Ended z n) s h = inl (sym (ap shown_status h.1))
agreed (answer.Trapped t n) s h = inl (sym (ap shown_status h.1))
agreed answer.Spent s h = inl (sym (ap shown_status h.1))
agreed answer.ReadFault s h = absurd h
agreed answer.WriteFault s h = absurd h
agreed answer.Memory s h = inr refl

-- a reason for another one
pub unfit_for : (said : List ℕ → Type 0) (P Q : Refusal → Type 0) (from : List ℕ) (result : Status) → ((r : Refusal) → P r → Q r) →
    Unfit said P from result → Unfit said Q from result
unfit_for said P Q from (status.Refused refusal) f h = (f refusal h.0, h.1)
unfit_for said P Q from status.Memory f h = h
unfit_for said P Q from _ f h = absurd h

-- the text that the shelf hands over is the one that it holds
handed : (before : Option Files) (files : Files) (from text : List ℕ) (P : List ℕ → Type 0) → before ≡ Some files → get files from ≡ Some text
    → HandsOver before from P → P text
handed before files from text P told there h =
    let found = subst (λ b. HandsOver b from P) told h in
    let same : found.0 ≡ text = let both = sym found.1 ∙ there in cc in
    subst P same found.2

pub runnable_not_blocked : (p : Program) (refusal : Refusal) → IsRunnable p → IsBlocked p refusal → ⊥
runnable_not_blocked p refusal h b = elim b [
  | inl lacks ↦ lacks.0 h.main
  | inr calls ↦ false≢true (sym h.closed ∙ calls.1)
]

module _ (gives : List ℕ → Program → Type 0) (refuses : List ℕ → Refusal → Type 0)
    (one : (text : List ℕ) (p q : Program) → gives text p → gives text q → p ≡ q)
    (apart : (text : List ℕ) (p : Program) (refusal : Refusal) → gives text p → refuses text refusal → ⊥) where
  unfit_not : (refusal : Refusal) (text : List ℕ) (p : Program) → gives text p → IsRunnable p → IsUnfit gives refuses refusal text → ⊥
  unfit_not refusal text p reads can h = elim h [
    | inl refused ↦ apart text p refusal reads refused
    | inr blocked ↦ runnable_not_blocked p refusal can (subst (λ q. IsBlocked q refusal) (one text blocked.0 p blocked.1 reads) blocked.2)
  ]

  taken_not : (refusal : Refusal) (text : List ℕ) (p : Program) → length text ≤ 67108864 → gives text p → IsRunnable p →
      IsTooLongOrUnfit gives refuses refusal text → ⊥
  taken_not refusal text p short reads can h = elim h [
    | inl long ↦ let above = long.0 in omega arith
    | inr whole ↦ unfit_not refusal text p reads can whole.1
  ]

  -- no run was begun
  pub completes : (said : List ℕ → Type 0) (from : List ℕ) (steps : ℕ) (before : Option Files) (reads reads' : ReadCounts) (rest : Option (List ℕ))
      (inputs inputs' faults faults' : ℕ) (result : Status)
      → Unrun said gives refuses from before reads reads' result → CompletesRun gives from steps before reads reads' rest inputs inputs' faults faults' result
  completes said from steps before reads reads' rest inputs inputs' faults faults' status.Done h = absurd h
  completes said from steps before reads reads' rest inputs inputs' faults faults' (status.Refused refusal) h =
      λ files text p input told there short given can tells still stays keeps.
      absurd (taken_not refusal text p short given can (handed before files from text (IsTooLongOrUnfit gives refuses refusal) told there h.reason))
  completes said from steps before reads reads' rest inputs inputs' faults faults' status.Usage h = absurd h
  completes said from steps before reads reads' rest inputs inputs' faults faults' status.Memory h =
      λ files text p input told there short given can tells still stays keeps. inr refl
  completes said from steps before reads reads' rest inputs inputs' faults faults' status.ReadFault h =
      λ files text p input told there short given can tells still stays keeps. absurd (still h.rose)
  completes said from steps before reads reads' rest inputs inputs' faults faults' status.WriteFault h = absurd h
  completes said from steps before reads reads' rest inputs inputs' faults faults' (status.Trapped trap) h = absurd h
  completes said from steps before reads reads' rest inputs inputs' faults faults' status.Spent h = absurd h
  completes said from steps before reads reads' rest inputs inputs' faults faults' status.Absent h =
      λ files text p input told there short given can tells still stays keeps.
      absurd (lacking before files from text told there h.lacks)

  -- the program that was run is the one of the text
  pub same_program : (before : Option Files) (files : Files) (from text : List ℕ) (p q : Program) → before ≡ Some files → get files from ≡ Some text
      → HandsOver before from (λ t. (length t ≤ 67108864) × gives t p) → gives text q → p ≡ q
  same_program before files from text p q told there h given =
      one text p q (handed before files from text (λ t. (length t ≤ 67108864) × gives t p) told there h).1 given

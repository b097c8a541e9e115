-- Where a text is there that is accepted, and no read fails, a command ends without a translation for want of memory alone.
use Rattle.std.proofs.Common.{◌≡◌, ℕ, ◌+◌, ◌<◌, ◌≤◌, List, length, replicate, Option, IfSome, IsSomeAnd, None, Some, inl, inr, refl, sym, subst, ◌∙◌, arith}
use Rattle.std.proofs.lemmas.List.{length-replicate}
use Rattle.std.specs.FinMap.{get}
use Rattle.c_types.specs.declared.refusal.Refusal.{Refusal}
use Rattle.rg_ports.specs.Files.{Files}
use Rattle.rg_ports.specs.declared.reads.ReadCounts.{ReadCounts}
use Rattle.cmd_words.specs.declared.status.Status.{Status}
use Rattle.cmd_words.specs.declared.status.Status.TheVariants as status
use Rattle.cmd_files.specs.Taken.{HandsOver, Lacks}
use Rattle.cmd_files.specs.Translated.{IsTooLongOrRefused, Untranslated, Completes}

-- where a shelf found its file to be longer than this, there is a text that is longer
pub too_long_text : (before : Option Files) (from : List ℕ) (most : ℕ) → IfSome before (λ files. IsSomeAnd (get files from) (λ bytes. most < length bytes))
    → HandsOver before from (λ text. most < length text)
too_long_text None from most h = (replicate (most + 1) 0, let long = length-replicate {A = ℕ} (most + 1) 0 in omega (arith, long))
too_long_text (Some files) from most h = held (get files from) h
  where
    held : (found : Option (List ℕ)) → IsSomeAnd found (λ bytes. most < length bytes) → (text : List ℕ) × (found ≡ Some text) × (most < length text)
    held None h = absurd h
    held (Some text) h = (text, refl, h)

-- the text that the shelf hands over is the one that it holds
pub handed : (before : Option Files) (files : Files) (from text : List ℕ) (P : List ℕ → Type 0) → before ≡ Some files → get files from ≡ Some text
    → HandsOver before from P → P text
handed before files from text P told there h =
    let found = subst (λ b. HandsOver b from P) told h in
    let same : found.0 ≡ text = let both = sym found.1 ∙ there in cc in
    subst P same found.2

pub lacking : (before : Option Files) (files : Files) (from text : List ℕ) → before ≡ Some files → get files from ≡ Some text → Lacks before from → ⊥
lacking before files from text told there h =
    let none : get files from ≡ None = subst (λ b. Lacks b from) told h in
    let both = sym none ∙ there in cc

module _ (accepts : List ℕ → Type 0) (refuses : List ℕ → Refusal → Type 0)
    (apart : (text : List ℕ) (refusal : Refusal) → accepts text → refuses text refusal → ⊥) where
  taken_not_refused : (refusal : Refusal) (text : List ℕ) → length text ≤ 1048576 → accepts text → IsTooLongOrRefused refuses refusal text → ⊥
  taken_not_refused refusal text short inside h = elim h [
    | inl long ↦ let above = long.0 in omega arith
    | inr whole ↦ apart text refusal inside whole.1
  ]

  pub completes : (said : List ℕ → Type 0) (from : List ℕ) (before : Option Files) (reads reads' : ReadCounts) (writes writes' : ℕ) (result : Status)
      → Untranslated said refuses from before reads reads' result → Completes accepts from before reads reads' writes writes' result
  completes said from before reads reads' writes writes' status.Done h = absurd h
  completes said from before reads reads' writes writes' (status.Refused refusal) h = λ files text told there short inside still stay.
      absurd (taken_not_refused refusal text short inside (handed before files from text (IsTooLongOrRefused refuses refusal) told there h.reason))
  completes said from before reads reads' writes writes' status.Usage h = absurd h
  completes said from before reads reads' writes writes' status.Memory h = λ files text told there short inside still stay. inr refl
  completes said from before reads reads' writes writes' status.ReadFault h = λ files text told there short inside still stay. absurd (still h.rose)
  completes said from before reads reads' writes writes' status.WriteFault h = absurd h
  completes said from before reads reads' writes writes' (status.Trapped trap) h = absurd h
  completes said from before reads reads' writes writes' status.Spent h = absurd h
  completes said from before reads reads' writes writes' status.Absent h = λ files text told there short inside still stay.
      absurd (lacking before files from text told there h.lacks)

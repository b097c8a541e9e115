-- What is said of a command whose calls are told apart.
use Rattle.std.proofs.Common.{◌≡◌, ℕ, ◌<◌, ◌≤◌, List, length, Option, None, Some, inl, inr, refl, sym, subst, arith}
use Rattle.c_types.specs.declared.refusal.Refusal.{Refusal}
use Rattle.c_tree.specs.declared.tree.Program.{Program}
use Rattle.rg_ports.specs.Files.{Files}
use Rattle.rg_ports.specs.declared.reads.ReadCounts.{ReadCounts}
use Rattle.rg_ports.specs.Reads.{NotFewer}
use Rattle.cmd_words.specs.declared.status.Status.{Status}
use Rattle.cmd_words.specs.declared.status.Status.TheVariants as status
use Rattle.cmd_words.proofs.Told.{rose_since}
use Rattle.cmd_files.specs.declared.translator.Translation.{Translation}
use Rattle.cmd_files.specs.Taken.{HandsOver, Untaken, too_long}
use Rattle.cmd_files.specs.Translated.{Untranslated}
use Rattle.cmd_files.proofs.Completion.{handed, lacking, completes as translation_completes}
use Rattle.regoto.specs.Replayed.{IsTooLongOrRejected, IsRejected, Unreplayed, ReplaysIn, CompletesReport}
use Rattle.regoto.specs.Replays.{CompletesReplay}

-- ---- where no report was taken

longer : (rejects : List ℕ → Refusal → Type 0) (before : Option Files) (report : List ℕ) → HandsOver before report (λ text. 67108864 < length text)
    → HandsOver before report (IsTooLongOrRejected rejects too_long)
longer rejects None report h = (h.0, inl (h.1, refl))
longer rejects (Some files) report h = (h.0, h.1, inl (h.2, refl))

pub untaken_report : (said : List ℕ → Type 0) (rejects : List ℕ → Refusal → Type 0) (report : List ℕ) (before : Option Files)
    (reads reads' : ReadCounts) (result : Status)
    → Untaken said 67108864 report before reads reads' result → Unreplayed said rejects report before reads reads' result
untaken_report said rejects report before reads reads' (status.Refused refusal) u =
    subst (λ r. IsRejected said rejects report before r) (sym u.which) record { reason = longer rejects before report u.text; line = u.line }
untaken_report said rejects report before reads reads' status.Absent u = u
untaken_report said rejects report before reads reads' status.ReadFault u = u
untaken_report said rejects report before reads reads' status.Memory u = u
untaken_report said rejects report before reads reads' _ u = absurd u

-- ---- where another read went before

module _ (said : List ℕ → Type 0) (report : List ℕ) (before : Option Files) (f g h : ReadCounts) (grows : NotFewer f g) where
  pub unreplayed_since : (rejects : List ℕ → Refusal → Type 0) (result : Status) → Unreplayed said rejects report before g h result →
      Unreplayed said rejects report before f h result
  unreplayed_since rejects (status.Refused refusal) u = u
  unreplayed_since rejects status.Absent u = record { lacks = u.lacks; rose = rose_since f.absences g.absences h.absences grows.absences u.rose; line = u.line }
  unreplayed_since rejects status.ReadFault u = record { rose = rose_since f.faults g.faults h.faults grows.faults u.rose; line = u.line }
  unreplayed_since rejects status.Memory u = u
  unreplayed_since rejects _ u = absurd u

  pub replays_since : (gives : List ℕ → Translation → Type 0) (rejects : List ℕ → Refusal → Type 0) (to : List ℕ) (after : Option Files)
      (writes writes' : ℕ) (result : Status)
      → ReplaysIn said gives rejects report to before after g h writes writes' result →
      ReplaysIn said gives rejects report to before after f h writes writes' result
  replays_since gives rejects to after writes writes' result r = elim r [
    | inl done ↦ inl done
    | inr not ↦ inr (not.0, unreplayed_since rejects result not.1)
  ]

-- ---- where both files are there and no call fails

module _ (accepts : List ℕ → Type 0) (rejects : List ℕ → Refusal → Type 0)
    (apart : (text : List ℕ) (refusal : Refusal) → accepts text → rejects text refusal → ⊥) where
  not_rejected : (refusal : Refusal) (text : List ℕ) → length text ≤ 67108864 → accepts text → IsTooLongOrRejected rejects refusal text → ⊥
  not_rejected refusal text short inside h = elim h [
    | inl long ↦ let above = long.0 in omega arith
    | inr whole ↦ apart text refusal inside whole.1
  ]

  -- the report made nothing
  pub report_completes : (said : List ℕ → Type 0) (report : List ℕ) (before : Option Files) (reads reads' : ReadCounts) (writes writes' : ℕ) (result : Status)
      → Unreplayed said rejects report before reads reads' result → CompletesReport accepts report before reads reads' writes writes' result
  report_completes said report before reads reads' writes writes' status.Done h = absurd h
  report_completes said report before reads reads' writes writes' (status.Refused refusal) h = λ files text told there short inside still stay.
      absurd (not_rejected refusal text short inside (handed before files report text (IsTooLongOrRejected rejects refusal) told there h.reason))
  report_completes said report before reads reads' writes writes' status.Usage h = absurd h
  report_completes said report before reads reads' writes writes' status.Memory h = λ files text told there short inside still stay. inr refl
  report_completes said report before reads reads' writes writes' status.ReadFault h = λ files text told there short inside still stay. absurd (still h.rose)
  report_completes said report before reads reads' writes writes' status.WriteFault h = absurd h
  report_completes said report before reads reads' writes writes' (status.Trapped trap) h = absurd h
  report_completes said report before reads reads' writes writes' status.Spent h = absurd h
  report_completes said report before reads reads' writes writes' status.Absent h = λ files text told there short inside still stay.
      absurd (lacking before files report text told there h.lacks)

module _ (reads : List ℕ → Program → Type 0) (refuses : List ℕ → Refusal → Type 0) (accepts : Program → List ℕ → Type 0)
    (one : (text : List ℕ) (p q : Program) → reads text p → reads text q → p ≡ q)
    (apart : (text : List ℕ) (p : Program) (refusal : Refusal) → reads text p → refuses text refusal → ⊥) where
  -- no program was read
  pub unread_completes : (said : List ℕ → Type 0) (from report : List ℕ) (before : Option Files) (counts counts' : ReadCounts) (writes writes' : ℕ)
      (result : Status)
      → Untranslated said refuses from before counts counts' result → CompletesReplay reads accepts from report before counts counts' writes writes' result
  unread_completes said from report before counts counts' writes writes' result u = λ files text p lines told there short read held few inside still stay.
      translation_completes (λ t. (q : Program) × reads t q) refuses (λ t refusal has refused. apart t has.0 refusal has.1 refused)
      said from before counts counts' writes writes' result u files text told there short (p, read) still stay

  -- the report was looked at with the program of the text
  pub read_completes : (from report : List ℕ) (before : Option Files) (f g h : ReadCounts) (writes writes' : ℕ) (q : Program) (result : Status) → NotFewer f g
      → HandsOver before from (λ text. (length text ≤ 1048576) × reads text q)
      → CompletesReport (accepts q) report before g h writes writes' result → CompletesReplay reads accepts from report before f h writes writes' result
  read_completes from report before f g h writes writes' q result grows has c = λ files text p lines told there short read held few inside still stay.
      let got = handed before files from text (λ t. (length t ≤ 1048576) × reads t q) told there has in
      let same : p ≡ q = one text p q read got.1 in
      c files lines told held few (subst (λ z. accepts z lines) same inside) (λ rose. still (rose_since f.faults g.faults h.faults grows.faults rose)) stay

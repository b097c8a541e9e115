-- The Notes of what is restructured, that it is the only one, and that it is restructured to itself.
use Rattle.std.proofs.Common.{◌≡◌, ℕ, ◌+◌, true, List, [], ◌∷◌, Ok, refl, sym, ap, subst, ◌∙◌, arith}
use Rattle.c_copies.specs.Names.{names}
use Rattle.c_tree.specs.declared.tree.Program.{Program}
use Rattle.c_tree.specs.declared.tree.Top.{Top}
use Rattle.c_tree.specs.declared.tree.Top.TheVariants as T
use Rattle.c_tree.specs.Jumps.{is_plain_program}
use Rattle.c_tree.specs.Text.{text_of}
use Rattle.guard_vars.specs.GuardNames.{guard_names}
use Rattle.report_moves.specs.declared.moves.Move.{Move}
use Rattle.report_moves.specs.Report.{report_text}
use Rattle.move_report.specs.Numbers.{HaveNumbers}
use Rattle.plain_form.specs.Plain.{plain}
use Rattle.c_resolved_laws.specs.Counts.{flat_counts, IsResolved}
use Rattle.restructure_laws.proofs.NamedTops.{named_program_laws}
use Rattle.restructure_laws.proofs.WholeUniquePrograms.{one_rewriting_laws}
use Rattle.whole_laws.specs.Notes.{notes_of}
use Rattle.whole_laws.proofs.WholeCommentsPrograms.{notes_laws}
use Rattle.restructure_laws.proofs.WholeIdempotentPrograms.{settled_laws}
use Rattle.c_text.specs.Reading.{IsProgramOf}
use Rattle.c_text.proofs.Readings.{program_back}
use Rattle.move_driver.specs.declared.counts.Counts.{Counts}
use Rattle.move_driver.specs.Counts.{counted, guards_between, guards_from, counts_of}
use Rattle.move_driver.specs.Restructured.{IsRestructured, IsOnly}
use Rattle.move_driver.proofs.Programs.{counts_are}
use Rattle.move_driver.specs.Settled.{no_counts, IsSettled, unchanged, IsTextSettled}
use Rattle.move_driver.specs.Text.{Output, CanBeReplayed, IsOnlyOutput}

-- ---- Notes

pub notes_kept : (p q : Program) (ms : List Move) (counts : Counts) → IsResolved p → IsRestructured p q ms counts → notes_of q ≡ notes_of p
notes_kept p q ms counts r w = ap notes_of w.result ∙ notes_laws.program flat_counts (guard_names (names p)) p w.moved ms r
    (named_program_laws.rewritten flat_counts p w.moved ms r w.rewritten)

-- ---- the only one

pub only : (p q : Program) (ms : List Move) (counts : Counts) → IsResolved p → IsRestructured p q ms counts → IsOnly p q ms counts
only p q ms counts s v r ns others w =
    let k = one_rewriting_laws.rewritten p w.moved v.moved ns ms s w.rewritten v.rewritten in
    let same : r ≡ q = w.result ∙ ap (plain (names p)) k.0 ∙ sym v.result in
    (same, k.1, counts_are p r ns others s w ∙ (λ i. counts_of (k.1 i) (k.0 i) (same i)) ∙ sym (counts_are p q ms counts s v))

-- what a text is restructured to, which reads as p, where q is the only one for p
module _ (t : List ℕ) (p : Program) (reads : IsProgramOf t p) (q : Program) (ms : List Move) (counts : Counts) (o : IsOnly p q ms counts) where
  pub only_output : (out : Output) → out.text ≡ text_of q → out.report ≡ report_text ms → out.counts ≡ counts → IsOnlyOutput t out
  only_output out texts reports counted other w =
      let first : Ok w.program ≡ Ok p = sym (program_back t w.program w.reads) ∙ program_back t p reads in
      let program : w.program ≡ p = cc in
      let k = o w.result w.moves other.counts (subst (λ z. IsRestructured z w.result w.moves other.counts) program w.restructured) in
      let text = w.text ∙ ap text_of k.0 ∙ sym texts in
      let report = w.report ∙ ap report_text k.1 ∙ sym reports in
      let count = k.2 ∙ sym counted in
      λ i. record { text = text i; report = report i; counts = count i }

  pub replayable : (out : Output) → IsResolved p → HaveNumbers ms → CanBeReplayed t out
  replayable out resolved numbers w =
      let first : Ok w.program ≡ Ok p = sym (program_back t w.program w.reads) ∙ program_back t p reads in
      let program : w.program ≡ p = cc in
      let k = o w.result w.moves out.counts (subst (λ z. IsRestructured z w.result w.moves out.counts) program w.restructured) in
      (subst IsResolved (sym program) resolved, subst HaveNumbers (sym k.1) numbers)

-- ---- counts

no_guards : (t : Top) → guards_between t t ≡ 0
no_guards (T.Function f) = omega arith
no_guards _ = refl

none_from : (ts : List Top) → guards_from ts ts ≡ 0
none_from [] = refl
none_from (t ∷ ts) = λ i. no_guards t i + none_from ts i

none_counted : (p : Program) → counts_of [] p p ≡ no_counts
none_counted p = ap (λ n. record { jumps = 0; moves = 0; guards = counted n }) (none_from p.tops)

-- ---- what has no jumps is restructured to itself

pub settled : (p : Program) → IsResolved p → is_plain_program p ≡ true → IsSettled p
settled p r e q ms counts w =
    let k = settled_laws.rewritten p w.moved ms r e w.rewritten in
    let same : q ≡ p = w.result ∙ ap (plain (names p)) k.0 ∙ settled_laws.plain (guard_names (names p)) p r in
    (same, k.1, counts_are p q ms counts r w ∙ (λ i. counts_of (k.1 i) (k.0 i) (same i)) ∙ none_counted p)

-- and so is its text
pub text_settled : (t : List ℕ) (p : Program) → IsSettled p → t ≡ text_of p → IsProgramOf (text_of p) p → IsTextSettled t
text_settled t p s e reads =
    let read : IsProgramOf t p = subst (λ z. IsProgramOf z p) (sym e) reads in
    record { subset = (p, read); every = only_output t p read p [] no_counts s (unchanged t) e refl refl }

-- The report of a rewriting.
use Rattle.std.proofs.Common.{◌≡◌, ℕ, List, refl, sym, ap, subst, ◌∙◌}
use Rattle.std.proofs.lemmas.Result.{IfOk-at_ok}
use Rattle.c_tree.specs.declared.tree.Program.{Program}
use Rattle.c_tree.specs.Text.{text_of}
use Rattle.c_resolved_laws.specs.Counts.{IsResolved}
use Rattle.c_text.specs.Reading.{IsProgramOf}
use Rattle.c_text.proofs.Readings.{program_back}
use Rattle.move_driver.specs.Restructured.{IsRestructured}
use Rattle.move_driver.specs.Text.{Output, IsTextRestructured, CanBeReplayed}
use Rattle.cmd_files.specs.declared.translator.Translation.{Translation}
use Rattle.move_replay.specs.Replay.{IsReplay}
use Rattle.move_replay.proofs.Once.{one_replay}
use Rattle.move_replay.proofs.Outcomes.{restructured}
use Rattle.regoto.specs.ReportLaws.{ReportLaw}
use Rattle.regoto.specs.Reports.{IsAccepted, IsReplayedTo}

module _ (t : List ℕ) (out : Output) (r : IsTextRestructured t out) (can : CanBeReplayed t out) (p : Program) (reads : IsProgramOf t p) where
  one : r.program ≡ p
  one = IfOk-at_ok (λ z. r.program ≡ z) (sym (program_back t r.program r.reads) ∙ program_back t p reads) refl

  resolved : IsResolved p
  resolved = subst IsResolved one (can r).0

  replayed : IsReplay p out.report r.result out.counts
  replayed = restructured p r.result out.report r.moves out.counts resolved
      (subst (λ z. IsRestructured z r.result r.moves out.counts) one r.restructured) (can r).1 r.report

  accepted : IsAccepted p out.report
  accepted = (r.result, out.counts, replayed)

  same : (made : Translation) → IsReplayedTo p out.report made → made.text ≡ out.text
  same made m =
      let both = one_replay p resolved out.report m.result r.result m.counts out.counts m.replayed replayed in
      m.text ∙ ap text_of both.0 ∙ sym r.text

pub report_law : ReportLaw
report_law t out r can = record { accepted = λ p reads. accepted t out r can p reads; same = λ p made reads m. same t out r can p reads made m }

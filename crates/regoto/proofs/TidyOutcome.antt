-- What a text is tidied to, and that it is the only such text.
use Rattle.std.proofs.Common.{◌≡◌, ℕ, true, List, [], None, All, sym, ap, subst, ◌∙◌}
use Rattle.c_tree.specs.declared.tree.Program.{Program}
use Rattle.c_tree.specs.Jumps.{is_plain_program}
use Rattle.c_tree.specs.Text.{text_of}
use Rattle.report_moves.specs.declared.moves.Move.{Move}
use Rattle.plain_laws.specs.Laws.{BehavesAsStructured}
use Rattle.c_resolved_laws.specs.Counts.{IsResolved}
use Rattle.c_text.specs.Reading.{reading, IsProgramOf}
use Rattle.c_text.proofs.Readings.{program_back, same_read}
use Rattle.move_driver.specs.declared.counts.Counts.{Counts}
use Rattle.move_driver.specs.Restructured.{IsRestructured, IsOnly}
use Rattle.move_driver.specs.Settled.{no_counts}
use Rattle.tidy_laws.specs.Ends.{IsTidied}
use Rattle.tidy_result_laws.proofs.TheLaws.{end_law}
use Rattle.tidy_result_laws.specs.TidyRereadLaws.{ReadsBack}
use Rattle.tidy_result_laws.proofs.Ends.{ends_read_back}
use Rattle.tidy_result_laws.proofs.OneEnd.{one_end}
use Rattle.tidy_refusal.specs.JumplessLaws.{TopLacksJumps}
use Rattle.regoto.specs.declared.tidied_text.Tidied.{Tidied}
use Rattle.tidy_refusal.specs.TextJumps.{text_jump}
use Rattle.regoto.specs.Tidied.{IsTextTidied, IsOnlyText}
use Rattle.regoto.proofs.TidyBehaves.{behaves}
use Rattle.tidy_refusal.proofs.Jumpless.{lacks_jumps}
use Rattle.regoto.proofs.Unmoved.{no_moves, nothing_counted, same_variables}

same_made : (a b : Tidied) → a.text ≡ b.text → a.changes ≡ b.changes → a ≡ b
same_made a b e f = λ i. record { text = e i; changes = f i }

-- a text that reads as p, the plain form of p, and the end of that one
module _ (t : List ℕ) (p plain q : Program) (ms : List Move) (reads : IsProgramOf t p) (made : Tidied) (tidied : IsTidied plain made.changes q)
    (text : made.text ≡ text_of q) where
  module _ (counts : Counts) (unjumped : text_jump t ≡ None) (resolved : IsResolved p) (w : IsRestructured p plain ms counts)
      (ready : IsResolved plain) (free : is_plain_program plain ≡ true) (b : BehavesAsStructured p plain) where
    ends : ReadsBack plain made.changes q
    ends = ends_read_back plain made.changes q ready (end_law.free plain ready free) tidied

    lacks : All TopLacksJumps p.tops
    lacks = lacks_jumps t p reads unjumped

    bare : IsRestructured p plain [] no_counts
    bare =
        subst (λ z. IsRestructured p plain z no_counts) (no_moves p plain ms counts resolved lacks w)
        (subst (IsRestructured p plain ms) (nothing_counted p plain ms counts resolved lacks w) w)

    pub is_tidied : IsTextTidied t made
    is_tidied = record {
      unjumped = ((p, reads), unjumped);
      program = p;
      reads = reads;
      plain = plain;
      restructured = bare;
      result = q;
      tidied = tidied;
      text = text;
      jumpless = ends.plain;
      behaves = behaves p plain q b ends.alike;
      reads_back = subst (λ z. IsProgramOf z q) (sym text) ends.reads;
      counted = ends.counted ∙ same_variables p plain ms counts resolved lacks w;
    }

  pub only_tidied : (counts : Counts) → IsOnly p plain ms counts → IsOnlyText t made
  only_tidied counts only other w =
      let program = same_read (reading t) w.program p (program_back t w.program w.reads) (program_back t p reads) in
      let k = only w.plain [] no_counts (subst (λ z. IsRestructured z w.plain [] no_counts) program w.restructured) in
      let ending = one_end plain q w.result made.changes other.changes tidied (subst (λ z. IsTidied z other.changes w.result) k.0 w.tidied) in
      same_made other made (w.text ∙ ap text_of ending.1 ∙ sym text) ending.0

-- What is written of a text that is lowered.
use Rattle.std.proofs.Common.{◌≡◌, ℕ, List, Ok, Err, inl, inr, sym, ap, ◌∙◌, subst}
use Rattle.std.specs.Prelude.{◌⊎◌}
use Rattle.c_tree.specs.declared.tree.Program.{Program}
use Rattle.c_tree.specs.Text.{text_of}
use Rattle.jump_meaning.specs.Runs.{BehaveTheSame}
use Rattle.c_resolved_laws.specs.Counts.{flat_counts, IsResolved}
use Rattle.c_text.specs.Reading.{IsProgramOf, reading}
use Rattle.c_text.proofs.Readings.{program_as, program_back, refused_for}
use Rattle.lower_laws.specs.Lowering.{IsLoweredProgram, program_gotos}
use Rattle.lower_result_laws.specs.LoweredRereadLaws.{IsReadOrTangled}
use Rattle.lower_result_laws.proofs.LoweredRereadProvedLaws.{lowered_reading_laws}
use Rattle.reread_program_laws.specs.RereadTextLaws.{counted}
use Rattle.regoto.specs.declared.lowered_text.Lowered.{Lowered}
use Rattle.regoto.specs.Lowered.{IsProgramOrTangled, IsTextLowered, IsOnlyText}

read_or_tangled : (t : List ℕ) (p : Program) → IsReadOrTangled counted t p → IsProgramOrTangled t p
read_or_tangled t p (inl read) = inl (program_as t p read)
read_or_tangled t p (inr stopped) = inr (stopped.0, (refused_for t stopped.0 stopped.1.0, stopped.1.1))

pub whole : (t : List ℕ) (made : Lowered) (p q : Program) → IsResolved p → IsProgramOf t p → IsLoweredProgram p q → BehaveTheSame p q →
    made.text ≡ text_of q → made.gotos ≡ program_gotos q → IsTextLowered t made
whole t made p q resolved reads lowered behaves text gotos = record {
  program = p;
  reads = reads;
  result = q;
  lowered = lowered;
  text = text;
  gotos = gotos;
  behaves = behaves;
  faults = λ m. subst (λ bytes. IsProgramOrTangled bytes q) (sym text)
      (read_or_tangled (text_of q) q (lowered_reading_laws.lowered flat_counts p q resolved lowered m));
  reads_back = λ m o. subst (λ bytes. IsProgramOf bytes q) (sym text) (program_as (text_of q) q (lowered_reading_laws.reads_back p q resolved lowered m o));
}

same_made : (a b : Lowered) → a.text ≡ b.text → a.gotos ≡ b.gotos → a ≡ b
same_made a b e f = λ i. record { text = e i; gotos = f i }

one_text : (a b : Lowered) (q r : Program) → a.text ≡ text_of q → a.gotos ≡ program_gotos q → b.text ≡ text_of r → b.gotos ≡ program_gotos r → q ≡ r → a ≡ b
one_text a b q r at ag bt bg e = same_made a b (at ∙ ap text_of e ∙ sym bt) (ag ∙ ap program_gotos e ∙ sym bg)

-- programs that a text has are one
same_program : (t : List ℕ) (p q : Program) → reading t ≡ Ok p → reading t ≡ Ok q → p ≡ q
same_program t p q e f = cc

pub only : (t : List ℕ) (made : Lowered) → IsTextLowered t made → IsOnlyText t made
only t made h = λ other o.
    let same = same_program t o.program h.program (program_back t o.program o.reads) (program_back t h.program h.reads) in
    let lowered = subst (λ p. IsLoweredProgram p o.result) same o.lowered in
    one_text other made o.result h.result o.text o.gotos h.text h.gotos (lowered_reading_laws.one h.program o.result h.result lowered h.lowered)

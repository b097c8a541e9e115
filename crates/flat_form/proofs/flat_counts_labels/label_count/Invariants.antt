use Rattle.std.proofs.Common.{◌≡◌, ◌+◌, ◌≤◌, drop}
use Rattle.flat_questions.specs.Reading.{is_flagged}
use Rattle.c_resolved_laws.specs.Counts.{labels_named}
use Rattle.flat_form.proofs.CountedPlaces.{labels_from}
use Rattle.flat_form.proofs.flat_counts_labels.label_count.Given as goal

abbrev pub invariant-loop-i : goal.invariant-loop-i
invariant-loop-i l = record {
  counted : l.count + labels_from (is_flagged l.named) l.labels l.i (drop l.i l.labels) ≡ labels_named (is_flagged l.named) l.labels;
  few : l.count ≤ l.i;
}

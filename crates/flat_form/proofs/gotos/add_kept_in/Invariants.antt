use Rattle.std.proofs.Common.{◌≡◌, ◌+◌, drop}
use Rattle.c_tree.specs.Trees.{sections_of}
use Rattle.flat_laws.specs.Parts.{kept_breaks}
use Rattle.flat_questions.specs.Reading.{is_flagged}
use Rattle.flat_form.proofs.gotos.add_kept_in.Given as goal

abbrev pub invariant-loop-i : goal.invariant-loop-i
invariant-loop-i l = l.count + kept_breaks (is_flagged l.named) (sections_of (drop l.i l.sections)) ≡ l.initial.count + kept_breaks
    (is_flagged l.named) (sections_of l.sections)

use Rattle.std.proofs.Common.{◌≡◌, drop, ◌++◌, map}
use Rattle.c_tree.specs.Cases.{case_number}
use Rattle.c_tree.specs.Trees.{sections_of}
use Rattle.flat_laws.specs.Parts.{switch_labels, cases_among}
use Rattle.flat_questions.proofs.cases.case_numbers.Given as goal

abbrev pub invariant-loop-i : goal.invariant-loop-i
invariant-loop-i l = l.out ++ map (case_number l.kind) (cases_among (switch_labels (sections_of (drop l.i l.sections)))) ≡ map (case_number l.kind)
    (cases_among (switch_labels (sections_of l.sections)))

use Rattle.std.proofs.Common.{◌≡◌, drop}
use Rattle.c_tree.specs.Trees.{Sections, sections_of}
use Rattle.flat_laws.specs.Parts.{switch_labels, has_default}
use Rattle.flat_questions.proofs.arrivals.switch_has_default.Given as goal

abbrev pub invariant-loop-i : goal.invariant-loop-i
invariant-loop-i l = (λ (d : Sections). has_default (switch_labels d)) (sections_of l.sections) ≡ (λ (d : Sections). has_default (switch_labels d))
    (sections_of (drop l.i l.sections))

use Rattle.std.proofs.Common.{◌≡◌, drop}
use Rattle.c_tree.specs.Exits.{breaks_in}
use Rattle.c_tree.specs.Trees.{Sections, sections_of}
use Rattle.flat_laws.specs.Parts.{is_some_number}
use Rattle.flat_questions.proofs.exits.sections_have_break.Given as goal

abbrev pub invariant-loop-i : goal.invariant-loop-i
invariant-loop-i l = (λ (d : Sections). is_some_number (breaks_in d)) (sections_of l.sections) ≡ (λ (d : Sections). is_some_number (breaks_in d))
    (sections_of (drop l.i l.sections))

use Rattle.std.proofs.Common.{◌≡◌, drop}
use Rattle.c_tree.specs.Trees.{Sections, sections_of}
use Rattle.flat_laws.specs.Parts.{ends_some}
use Rattle.flat_questions.proofs.endings.ends_some.Given as goal

abbrev pub invariant-loop-i : goal.invariant-loop-i
invariant-loop-i l = (λ (d : Sections). ends_some d) (sections_of l.sections) ≡ (λ (d : Sections). ends_some d) (sections_of (drop l.i l.sections))

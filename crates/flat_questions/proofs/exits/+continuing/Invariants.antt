use Rattle.std.proofs.Common.{◌≡◌, drop}
use Rattle.c_tree.specs.Exits.{continues, continues_in}
use Rattle.c_tree.specs.Trees.{Forest, Sections, trees_of, sections_of}
use Rattle.flat_laws.specs.Parts.{is_some_number}
use Rattle.flat_questions.proofs.exits.+continuing.Given as goal

abbrev pub invariant-items_have_continue-loop-i : goal.invariant-items_have_continue-loop-i
invariant-items_have_continue-loop-i l = (λ (a : Forest). is_some_number (continues a))
    (trees_of l.items) ≡ (λ (a : Forest). is_some_number (continues a)) (trees_of (drop l.i l.items))

abbrev pub invariant-slice_has_continue-loop-i : goal.invariant-slice_has_continue-loop-i
invariant-slice_has_continue-loop-i l = (λ (d : Sections). is_some_number (continues_in d))
    (sections_of l.sections) ≡ (λ (d : Sections). is_some_number (continues_in d)) (sections_of (drop l.i l.sections))

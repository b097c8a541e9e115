use Rattle.std.proofs.Common.{◌≡◌, drop}
use Rattle.c_tree.specs.Everywhere.{total, total_in}
use Rattle.c_tree.specs.Trees.{Forest, Sections, trees_of, sections_of}
use Rattle.flat_laws.specs.Parts.{is_some_number, jumps_of}
use Rattle.flat_questions.proofs.jumps.+having.Given as goal

abbrev pub invariant-items_have_jumps-loop-i : goal.invariant-items_have_jumps-loop-i
invariant-items_have_jumps-loop-i l = (λ (a : Forest). is_some_number (total jumps_of a))
    (trees_of l.items) ≡ (λ (a : Forest). is_some_number (total jumps_of a)) (trees_of (drop l.i l.items))

abbrev pub invariant-sections_have_jumps-loop-i : goal.invariant-sections_have_jumps-loop-i
invariant-sections_have_jumps-loop-i l = (λ (d : Sections). is_some_number (total_in jumps_of d))
    (sections_of l.sections) ≡ (λ (d : Sections). is_some_number (total_in jumps_of d)) (sections_of (drop l.i l.sections))

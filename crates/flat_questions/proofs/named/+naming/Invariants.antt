use Rattle.std.proofs.Common.{◌≡◌, ℕ, drop, ◌||◌}
use Rattle.c_tree.specs.Everywhere.{total_in}
use Rattle.c_tree.specs.Trees.{Forest, Sections, trees_of, sections_of}
use Rattle.flat_laws.specs.Parts.{is_some_number, gotos_to, is_named}
use Rattle.flat_questions.specs.Reading.{is_flagged}
use Rattle.flat_questions.proofs.named.+naming.Given as goal

abbrev pub invariant-add_items-loop-i : goal.invariant-add_items-loop-i
invariant-add_items-loop-i l = (m : ℕ) → (is_flagged l.flags m || (λ (m : ℕ) (a : Forest). is_named a m) m
    (trees_of (drop l.i l.items))) ≡ (is_flagged l.initial.flags m || (λ (m : ℕ) (a : Forest). is_named a m) m (trees_of l.items))

abbrev pub invariant-add_sections-loop-i : goal.invariant-add_sections-loop-i
invariant-add_sections-loop-i l = (m : ℕ) → (is_flagged l.flags m || (λ (m : ℕ) (d : Sections). is_some_number (total_in (gotos_to m) d)) m
    (sections_of (drop l.i l.sections))) ≡ (is_flagged l.initial.flags m ||
    (λ (m : ℕ) (d : Sections). is_some_number (total_in (gotos_to m) d)) m (sections_of l.sections))

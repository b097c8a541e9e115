use Rattle.std.proofs.Common.{◌≡◌, drop}
use Rattle.c_tree.specs.Trees.{Forest, Sections, trees_of, sections_of}
use Rattle.flat_laws.specs.Parts.{holds_jump, holds_jump_among}
use Rattle.flat_questions.specs.Reading.{is_flagged}
use Rattle.flat_questions.proofs.jumps.+jump.Given as goal

abbrev pub invariant-items_hold_jump-loop-i : goal.invariant-items_hold_jump-loop-i
invariant-items_hold_jump-loop-i l = (λ (a : Forest). holds_jump (is_flagged l.named) a)
    (trees_of l.items) ≡ (λ (a : Forest). holds_jump (is_flagged l.named) a) (trees_of (drop l.i l.items))

abbrev pub invariant-slice_holds_jump-loop-i : goal.invariant-slice_holds_jump-loop-i
invariant-slice_holds_jump-loop-i l = (λ (d : Sections). holds_jump_among (is_flagged l.named) d)
    (sections_of l.sections) ≡ (λ (d : Sections). holds_jump_among (is_flagged l.named) d) (sections_of (drop l.i l.sections))

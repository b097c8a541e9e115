use Rattle.std.proofs.Common.{◌≡◌, not, drop}
use Rattle.c_tree.specs.TextItems.{is_empty}
use Rattle.c_tree.specs.Trees.{Forest, trees_of}
use Rattle.flat_laws.specs.Parts.{arrivals}
use Rattle.flat_questions.proofs.arrivals.+arrival.Given as goal

abbrev pub invariant-items_have_arrival-loop-i : goal.invariant-items_have_arrival-loop-i
invariant-items_have_arrival-loop-i l = (λ (a : Forest). not (is_empty (arrivals a)))
    (trees_of l.items) ≡ (λ (a : Forest). not (is_empty (arrivals a))) (trees_of (drop l.i l.items))

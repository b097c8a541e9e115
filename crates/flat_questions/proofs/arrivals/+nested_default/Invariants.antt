use Rattle.std.proofs.Common.{◌≡◌, drop}
use Rattle.c_tree.specs.Trees.{Forest, trees_of}
use Rattle.flat_laws.specs.Parts.{arrivals, has_default}
use Rattle.flat_questions.proofs.arrivals.+nested_default.Given as goal

abbrev pub invariant-items_have_default-loop-i : goal.invariant-items_have_default-loop-i
invariant-items_have_default-loop-i l = (λ (a : Forest). has_default (arrivals a)) (trees_of l.items) ≡ (λ (a : Forest). has_default (arrivals a))
    (trees_of (drop l.i l.items))

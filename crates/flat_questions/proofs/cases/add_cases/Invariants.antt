use Rattle.std.proofs.Common.{◌≡◌, drop, ◌++◌, map}
use Rattle.c_tree.specs.Cases.{case_number}
use Rattle.c_tree.specs.Trees.{expression_trees}
use Rattle.flat_questions.proofs.cases.add_cases.Given as goal

abbrev pub invariant-loop-i : goal.invariant-loop-i
invariant-loop-i l = l.out ++ map (case_number l.kind) (expression_trees (drop l.i l.cases)) ≡ l.initial.out ++
    map (case_number l.kind) (expression_trees l.cases)

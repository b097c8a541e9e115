use Rattle.std.proofs.Common.{◌≡◌, ◌++◌, map, take}
use Rattle.c_tree.specs.Cases.{case_number}
use Rattle.c_tree.specs.Trees.{expression_trees}
use Rattle.inward_moves.proofs.numbers.add_numbers.Given as goal

abbrev pub invariant-loop-e : goal.invariant-loop-e
invariant-loop-e l = l.numbers.items ≡ l.initial.numbers.items ++ map (case_number l.kind) (expression_trees (take l.e-index l.cases))

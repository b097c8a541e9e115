use Rattle.std.proofs.Common.{◌≡◌, drop}
use Rattle.std.specs.List.{list_any}
use Rattle.c_tree.specs.Trees.{expression_trees}
use Rattle.jump_meaning.specs.Search.{is_case}
use Rattle.step_tasks.proofs.search.has_case.Given as goal

abbrev pub invariant-loop-case : goal.invariant-loop-case
invariant-loop-case l = list_any (is_case l.kind l.number) (expression_trees (drop l.case-index l.cases)) ≡ list_any (is_case l.kind l.number)
    (expression_trees l.cases)

use Rattle.std.proofs.Common.{◌≡◌, drop}
use Rattle.c_tree.specs.Trees.{trees_of, expression_trees, join}
use Rattle.flat_laws.specs.Pieces.{case_marks}
use Rattle.lower_items.specs.Plans.{case_names}
use Rattle.lower_items.proofs.cases.add_case_marks.Given as goal

abbrev pub invariant-loop-i : goal.invariant-loop-i
invariant-loop-i l = join (trees_of l.out) (case_marks (case_names l.cases) (expression_trees (drop l.i l.given)) l.default) ≡ join
    (trees_of l.initial.out) (case_marks (case_names l.cases) (expression_trees l.given) l.default)

use Rattle.std.proofs.Common.{◌≤◌, drop}
use Rattle.c_tree.specs.Trees.{expression_trees}
use Rattle.c_resolved_defs.specs.Limits.{most_of}
use Rattle.c_resolved_defs.specs.PrintableStatements.{most}
use Rattle.print_limits.proofs.Measures.{Same}
use Rattle.print_limits.proofs.expressions.are_short.Given as goal

abbrev pub invariant-loop-i : goal.invariant-loop-i
invariant-loop-i l = Same (most_of l.need (expression_trees l.items) ≤ most) (most_of l.need (expression_trees (drop l.i l.items)) ≤ most)

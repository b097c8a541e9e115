use Rattle.std.proofs.Common.{◌≡◌, ◌+◌, drop, map}
use Rattle.c_tree.specs.ExpressionTrees.{arguments, expression_tree}
use Rattle.c_resolved_defs.specs.PrintableExpressions.{all_counted}
use Rattle.print_limits.proofs.expressions.+spending.Given as goal

-- the arguments so far are spent
abbrev pub invariant-spend_arguments-loop-i : goal.invariant-spend_arguments-loop-i
invariant-spend_arguments-loop-i l = l.left + all_counted (arguments (map expression_tree l.items)) ≡ l.room + all_counted
    (arguments (map expression_tree (drop l.i l.items)))

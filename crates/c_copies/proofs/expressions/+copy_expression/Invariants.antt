use Rattle.std.proofs.Common.{◌≡◌, take}
use Rattle.c_copies.proofs.expressions.+copy_expression.Given as goal

abbrev pub invariant-copy_expressions-loop-item : goal.invariant-copy_expressions-loop-item
invariant-copy_expressions-loop-item l = l.out ≡ take l.item-index l.items

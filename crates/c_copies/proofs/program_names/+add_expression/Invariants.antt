use Rattle.std.proofs.Common.{◌≡◌, drop}
use Rattle.c_copies.specs.Names.{with_names, expressions_names}
use Rattle.c_copies.proofs.program_names.+add_expression.Given as goal

abbrev pub invariant-add_expressions-loop-i : goal.invariant-add_expressions-loop-i
invariant-add_expressions-loop-i l = with_names l.set (expressions_names (drop l.i l.items)) ≡ with_names l.initial.set (expressions_names l.items)

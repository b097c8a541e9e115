use Rattle.std.proofs.Common.{ℕ, List, drop, map}
use Rattle.c_tree.specs.TextPieces.{Piece}
use Rattle.c_tree.specs.TextExpressions.{operands, expression_text, expressions_text}
use Rattle.rg_ports.specs.Writing.{Start}
use Rattle.c_printer.specs.Writing.{StandsBefore}
use Rattle.c_printer.proofs.Lists.{listed_from}
use Rattle.c_printer.proofs.expressions.+put_expression.Given as goal

abbrev pub invariant-put_expressions-loop-i : goal.invariant-put_expressions-loop-i
invariant-put_expressions-loop-i g l =
    (start : Start) (whole : List ℕ) (rest : List Piece)
    → StandsBefore start whole (g.W.Output.progress l.fn.out) (expressions_text l.slots l.items rest)
    → StandsBefore start whole (g.W.Output.progress l.out) (listed_from l.i (operands (map (expression_text l.slots) (drop l.i l.items))) rest)

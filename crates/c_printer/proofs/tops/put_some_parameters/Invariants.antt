use Rattle.std.proofs.Common.{ℕ, List, drop, map}
use Rattle.c_tree.specs.TextPieces.{Piece, listed}
use Rattle.c_tree.specs.Text.{parameter_text}
use Rattle.rg_ports.specs.Writing.{Start}
use Rattle.c_printer.specs.Writing.{StandsBefore}
use Rattle.c_printer.proofs.Lists.{listed_from}
use Rattle.c_printer.proofs.tops.put_some_parameters.Given as goal

abbrev pub invariant-loop-i : goal.invariant-loop-i
invariant-loop-i g l =
    (start : Start) (whole : List ℕ) (rest : List Piece)
    → StandsBefore start whole (g.W.Output.progress l.fn.out) (listed (map parameter_text l.slots) rest)
    → StandsBefore start whole (g.W.Output.progress l.out) (listed_from l.i (map parameter_text (drop l.i l.slots)) rest)

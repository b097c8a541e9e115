use Rattle.std.proofs.Common.{ℕ, List, drop, map}
use Rattle.c_tree.specs.TextPieces.{Piece, joined}
use Rattle.c_tree.specs.TextItems.{case_line}
use Rattle.rg_ports.specs.Writing.{Start}
use Rattle.c_printer.specs.Writing.{StandsBefore}
use Rattle.c_printer.proofs.items.put_cases.Given as goal

abbrev pub invariant-loop-i : goal.invariant-loop-i
invariant-loop-i g l =
    (start : Start) (whole : List ℕ) (rest : List Piece)
    → StandsBefore start whole (g.W.Output.progress l.fn.out) (joined (map (case_line l.slots l.depth) l.cases) rest)
    → StandsBefore start whole (g.W.Output.progress l.out) (joined (map (case_line l.slots l.depth) (drop l.i l.cases)) rest)

use Rattle.std.proofs.Common.{ℕ, List, drop, map}
use Rattle.c_tree.specs.TextPieces.{Piece, joined}
use Rattle.c_tree.specs.TextItems.{Printed, printed, first_text}
use Rattle.rg_ports.specs.Writing.{Start}
use Rattle.c_printer.specs.Writing.{StandsBefore}
use Rattle.c_printer.proofs.items.put_first.Given as goal

abbrev pub invariant-loop-i : goal.invariant-loop-i
invariant-loop-i g l =
    (start : Start) (whole : List ℕ) (rest : List Piece)
    → StandsBefore start whole (g.W.Output.progress l.fn.out) (first_text (map (printed l.function) l.items) rest)
    → StandsBefore start whole (g.W.Output.progress l.out) (joined (map (λ (y : Printed). y.further) (map (printed l.function) (drop l.i l.items))) rest)

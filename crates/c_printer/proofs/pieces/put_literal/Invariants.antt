use Rattle.std.proofs.Common.{ℕ, List, ◌∷◌, drop}
use Rattle.c_tree.specs.TextPieces.{escaped_bytes}
use Rattle.rg_ports.specs.Writing.{Start, Stands}
use Rattle.c_printer.proofs.pieces.put_literal.Given as goal

abbrev pub invariant-loop-byte : goal.invariant-loop-byte
invariant-loop-byte g l =
    (start : Start) (whole rest : List ℕ)
    → Stands start whole (g.W.Output.progress l.fn.out) (34 ∷ escaped_bytes l.bytes rest)
    → Stands start whole (g.W.Output.progress l.out) (escaped_bytes (drop l.byte-index l.bytes) rest)

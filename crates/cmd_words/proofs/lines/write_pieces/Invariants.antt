use Rattle.std.proofs.Common.{take}
use Rattle.std.specs.List.{flat_map}
use Rattle.cmd_words.specs.Lines.{Wrote}
use Rattle.cmd_words.proofs.lines.write_pieces.Given as goal

-- the pieces so far were written
abbrev pub invariant-loop-piece : goal.invariant-loop-piece
invariant-loop-piece g l =
    Wrote (g.E.Sink.written l.fn.err) (g.E.Sink.written l.err) (g.E.Sink.faults l.fn.err) (g.E.Sink.faults l.err)
    (flat_map (λ piece. piece.now) (take l.piece-index l.pieces))

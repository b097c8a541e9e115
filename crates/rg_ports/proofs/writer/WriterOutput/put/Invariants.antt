use Rattle.std.proofs.Common.{ℕ, List, ◌++◌, drop}
use Rattle.rg_ports.specs.Writing.{Start, Stands, progress_of}
use Rattle.rg_ports.proofs.writer.WriterOutput.put.Given as goal

abbrev pub invariant-loop-byte : goal.invariant-loop-byte
invariant-loop-byte g l =
    (start : Start) (whole rest : List ℕ)
    → Stands start whole (progress_of l.fn.self.sink.ghost_name (g.O.Sink.written l.fn.self.sink.now) (g.O.Sink.faults l.fn.self.sink.now)
    l.fn.self.held.items l.fn.self.failed) (l.bytes ++ rest)
    → Stands start whole (progress_of l.self.sink.ghost_name (g.O.Sink.written l.self.sink.now) (g.O.Sink.faults l.self.sink.now) l.self.held.items
    l.self.failed) (drop l.byte-index l.bytes ++ rest)

use Rattle.std.proofs.Common.{[]}
use Rattle.c_tree.specs.Text.{text_of}
use Rattle.c_printer.specs.Writing.{StandsBefore}
use Rattle.rg_ports.proofs.Progress.{start_of, begun, end_same, end_grows, end_ok, end_err, end_rose}
use Rattle.c_printer.proofs.whole.write_program.Goals as goal

pub returns : goal.returns
unfolding StandsBefore
returns g c =
    let first = begun c.args.writer.now.sink.ghost_name (g.O.Sink.written c.args.writer.now.sink.now) (g.O.Sink.faults c.args.writer.now.sink.now)
    c.args.writer.now.held.items c.args.writer.now.failed (text_of c.args.program.now) c.requires.held c.requires.going
    (g.met.O.Sink.counts c.args.writer.now.sink.now) in
    let last = c.flush.ensures.gives _ _ []
    (c.put_program.ensures (start_of c.args.writer.now.sink.ghost_name (g.O.Sink.written c.args.writer.now.sink.now)
    (g.O.Sink.faults c.args.writer.now.sink.now)) (text_of c.args.program.now) [] first) in
    record {
      same_reference = end_same _ _ _ _ _ _ _ _ _ last;
      ok = end_ok _ _ _ _ _ _ _ _ _ c.flush.ensures.emptied last;
      err = end_err _ _ _ _ _ _ _ _ _ last;
      rose = end_rose _ _ _ _ _ _ _ _ _ last;
      grows = end_grows _ _ _ _ _ _ _ _ _ last;
    }

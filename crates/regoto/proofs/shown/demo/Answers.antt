use Rattle.std.proofs.Common.{inl, inr}
use Rattle.regoto.proofs.DemoCompletion.{completes}
use Rattle.regoto.proofs.shown.demo.Goals as goal

pub returns-in-Ok-clause-completes : goal.returns-in-Ok-clause-completes
returns-in-Ok-clause-completes g c =
    completes c.args.n (Unit {0}) (g.O.Sink.written c.args.out.now) (g.O.Sink.written c.write_line.new.out)
    (g.E.Sink.written c.demonstrated.new.err) (g.E.Sink.written c.write_line.new.err)
    (g.O.Sink.faults c.args.out.now) (g.O.Sink.faults c.write_line.new.out)
    (g.E.Sink.faults c.demonstrated.new.err) (g.E.Sink.faults c.write_line.new.err)
    c.write_line.result (inl (c.in-Ok.shown, c.in-Ok.ensures.shown, c.write_line.ensures))

pub returns-in-Err-clause-completes : goal.returns-in-Err-clause-completes
returns-in-Err-clause-completes g c =
    completes c.args.n (Unit {0}) (g.O.Sink.written c.args.out.now) (g.O.Sink.written c.args.out.now)
    (g.E.Sink.written c.args.err.now) (g.E.Sink.written c.demonstrated.new.err)
    (g.O.Sink.faults c.args.out.now) (g.O.Sink.faults c.args.out.now)
    (g.E.Sink.faults c.args.err.now) (g.E.Sink.faults c.demonstrated.new.err)
    c.in-Err.status (inr (tt, c.in-Err.ensures.unshown))

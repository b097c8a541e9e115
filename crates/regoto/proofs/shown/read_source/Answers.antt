use Rattle.std.proofs.Common.{codes}
use Rattle.cmd_words.specs.Lines.{Tells}
use Rattle.regoto.proofs.RunMains.{enters}
use Rattle.regoto.proofs.DemoUnfit.{blocked_unfit, unread_unfit}
use Rattle.regoto.proofs.shown.read_source.Goals as goal

pub ready_program-requires : goal.ready_program-requires
ready_program-requires g c = enters c.in-Ok.program c.in-Ok.ensures.resolved

pub returns-in-Ok-clause-unfit : goal.returns-in-Ok-clause-unfit
returns-in-Ok-clause-unfit g c =
    blocked_unfit
    (λ line. Tells (g.E.Sink.written c.args.err.now) (g.E.Sink.written c.ready_program.new.err) (g.E.Sink.faults c.args.err.now)
    (g.E.Sink.faults c.ready_program.new.err) line)
    c.args.text.now (codes "demo") c.in-Ok.program c.ready_program.result c.in-Ok.ensures.program c.ready_program.ensures.unfit

pub returns-in-Err-clause-unfit : goal.returns-in-Err-clause-unfit
returns-in-Err-clause-unfit g c =
    unread_unfit
    (λ line. Tells (g.E.Sink.written c.args.err.now) (g.E.Sink.written c.tell_unread.new.err) (g.E.Sink.faults c.args.err.now)
    (g.E.Sink.faults c.tell_unread.new.err) line)
    c.args.text.now c.in-Err.stop c.tell_unread.result c.in-Err.ensures.refused c.tell_unread.ensures

use Rattle.std.proofs.Common.{subst}
use Rattle.cmd_words.specs.Lines.{Tells, spent_line}
use Rattle.regoto.specs.Demos.{StopsAt}
use Rattle.regoto.proofs.DemoAlike.{steps_are}
use Rattle.regoto.proofs.shown.tell_stop.Goals as goal

pub returns-in-Trapped : goal.returns-in-Trapped
returns-in-Trapped g c = λ n h. (subst (StopsAt n) c.in-Trapped.is h, c.tell_trap.ensures)

pub returns-in-Spent : goal.returns-in-Spent
returns-in-Spent g c = λ n h. (
  subst (StopsAt n) c.in-Spent.is h,
  subst (λ k. Tells (g.E.Sink.written c.args.err.now) (g.E.Sink.written c.tell_spent.new.err) (g.E.Sink.faults c.args.err.now)
      (g.E.Sink.faults c.tell_spent.new.err) (spent_line k))
      steps_are c.tell_spent.ensures,
)

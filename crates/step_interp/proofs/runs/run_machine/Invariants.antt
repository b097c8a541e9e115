use Rattle.std.proofs.Common.{◌≡◌, ◌≤◌, ◌-◌}
use Rattle.jump_meaning.specs.Code.{code_of}
use Rattle.step_interp.specs.Answers.{Beginning, after}
use Rattle.step_interp.specs.Followed.{Follows}
use Rattle.step_interp.proofs.runs.run_machine.Given as goal

abbrev pub invariant-loop-done : goal.invariant-loop-done
invariant-loop-done g l = record {
  program : l.machine.program.now ≡ l.fn.machine.program.now;
  follows : (r : Beginning) → r.code ≡ code_of l.fn.machine.program.now →
      Follows r.first r.told l.fn.machine (g.O.Sink.written l.fn.out) (g.I.Source.rest l.fn.input)
      → Follows (after r l.done) r.told l.machine (g.O.Sink.written l.out) (g.I.Source.rest l.input);
  reads : g.I.Source.faults l.fn.input ≤ g.I.Source.faults l.input;
  within : l.done ≤ l.budget;
  writes : g.O.Sink.faults l.fn.out ≤ g.O.Sink.faults l.out;
}

abbrev pub decreases-loop-done : goal.decreases-loop-done
decreases-loop-done g l = l.budget - l.done

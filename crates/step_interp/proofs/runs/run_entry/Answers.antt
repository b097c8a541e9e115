use Rattle.jump_meaning.specs.Code.{code_of}
use Rattle.step_interp.specs.Answers.{beginning}
use Rattle.step_interp.proofs.StartLemmas.{start_quiet, stopped_at_start}
use Rattle.step_interp.proofs.runs.run_entry.Goals as goal

pub returns-in-Err-clause-answers : goal.returns-in-Err-clause-answers
returns-in-Err-clause-answers g c given e = (
  0,
  stopped_at_start (beginning c.args.program.now c.args.entry.now given (g.O.Sink.written c.args.out.now)) c.args.budget
      (g.I.Source.rest c.args.input.now) (g.met.O.Sink.counts c.args.out.now) e
      (start_quiet (code_of c.args.program.now) c.args.entry.now.function c.args.entry.now.arguments given),
)

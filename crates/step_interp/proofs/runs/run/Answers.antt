use Rattle.step_interp.specs.Answers.{beginning}
use Rattle.step_interp.proofs.RunLemmas.{agrees}
use Rattle.step_interp.proofs.runs.run.Goals as goal

pub returns-clause-complete : goal.returns-clause-complete
returns-clause-complete g c a b given e =
    agrees (beginning c.args.program.now c.args.entry.now given (g.O.Sink.written c.args.out.now)) c.args.budget c.run_entry.result
    (g.O.Sink.written c.run_entry.new.out) (g.I.Source.rest c.run_entry.new.input)
    (c.run_entry.ensures.answers given e) (λ f. a (c.run_entry.ensures.read_fault f)) (λ f. b (c.run_entry.ensures.write_fault f))

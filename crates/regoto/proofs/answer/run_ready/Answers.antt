use Rattle.regoto.proofs.RunCompletion.{agreed}
use Rattle.regoto.proofs.answer.run_ready.Goals as goal

pub returns-clause-ran : goal.returns-clause-ran
returns-clause-ran g c = record {
  became = c.run-answer.result;
  ends = c.tell_answer.ensures.status;
  answers = rw c.requires.entry at c.run-answer.ensures.answers;
  read_fault = c.run-answer.ensures.read_fault;
  write_fault = c.run-answer.ensures.write_fault;
  line = c.tell_answer.ensures.line;
}

pub returns-clause-complete : goal.returns-clause-complete
returns-clause-complete g c = λ still keeps bytes told.
    let over = rw c.requires.entry at c.run-answer.ensures.complete in
    rw c.tell_answer.ensures.status (agreed c.run-answer.result _ (over still keeps bytes told))

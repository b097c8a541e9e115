use Rattle.std.proofs.Common.{ap, sym}
use Rattle.step_tasks.specs.Tasks.{computes, tasks_of}
use Rattle.step_tasks.proofs.TopLemmas.{is_emptied}
use Rattle.step_ahead.proofs.pushing.add_arguments.Goals as goal

pub returns-then-is_empty : goal.returns-then-is_empty
returns-then-is_empty c = record {
  ok = sym (ap (λ xs. computes xs (tasks_of c.args.tasks.now))
      (is_emptied c.is_empty.result c.args.list.now c.is_empty.ensures c.if-is_empty.true));
}

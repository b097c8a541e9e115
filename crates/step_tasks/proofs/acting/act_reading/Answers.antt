use Rattle.std.proofs.Common.{◌≡◌}
use Rattle.std.proofs.lemmas.Result.{IfOk-weaker}
use Rattle.jump_meaning.specs.Effects.{Op}
use Rattle.jump_meaning.specs.Tasks.{Works}
use Rattle.step_tasks.specs.Effects.{IsDoneOr, IsDoneOrAlways}
use Rattle.step_tasks.specs.Tasks.{task_of}
use Rattle.step_tasks.proofs.acting.act_reading.Goals as goal

pub returns-in_default : goal.returns-in_default
returns-in_default c = record {
  ok = IfOk-weaker c.act_on_values.result (λ d. (o : Op) → task_of c.args.task ≡ Works o → IsDoneOrAlways o d c.args.values.now c.act_on_values.new.values)
      (λ d. (o : Op) → task_of c.args.task ≡ Works o → IsDoneOr o d c.args.store.now c.args.tasks.now c.args.tasks.now c.args.values.now
      c.act_on_values.new.values)
      (λ d k o h. k o h c.args.store.now c.args.tasks.now) c.act_on_values.ensures.ok;
}

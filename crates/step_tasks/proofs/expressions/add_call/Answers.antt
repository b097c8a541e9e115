use Rattle.std.proofs.Common.{◌∷◌, ap, sym, ◌∙◌, rules}
use Rattle.std.proofs.lemmas.Result.{on_ok_weaker}
use Rattle.jump_meaning.specs.Effects.{Calls}
use Rattle.jump_meaning.specs.Tasks.{Works}
use Rattle.step_tasks.specs.Tasks.{computes, tasks_of}
use Rattle.step_tasks.proofs.CallLemmas.{call_work}
use Rattle.step_tasks.proofs.expressions.add_call.Goals as goal

pub returns : goal.returns
returns c = record {
  ok = on_ok_weaker c.push.result (λ p. ap tasks_of p ∙ ap (λ es. computes es (tasks_of c.add.new.tasks)) c.as_slice.ensures.value
      ∙ ap (computes c.args.arguments.now) (c.in_ok-add.ensures.ok ∙ ap (λ n. Works (Calls c.args.name.now n) ∷ tasks_of c.args.tasks.now)
      (search (rules, c.len.ensures.value)))
      ∙ sym (call_work c.args.name.now c.args.arguments.now (tasks_of c.args.tasks.now))) c.push.ensures.ok;
}

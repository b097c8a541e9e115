use Rattle.std.proofs.Common.{sym, ap, subst}
use Rattle.std.proofs.lemmas.Result.{on_ok_weaker}
use Rattle.step_tasks.specs.Controls.{Moves}
use Rattle.step_tasks.specs.Tasks.{task_of}
use Rattle.step_tasks.proofs.acting.control.Goals as goal

pub returns-in-Arm-clause-ok : goal.returns-in-Arm-clause-ok
returns-in-Arm-clause-ok c = on_ok_weaker c.arm.result (λ p. subst (λ t. Moves t c.args.store.now c.args.call.now c.arm.new.call)
    (sym (ap task_of c.in-Arm.is)) (p c.args.store.now)) c.arm.ensures.ok

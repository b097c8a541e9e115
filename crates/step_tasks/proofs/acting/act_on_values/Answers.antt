use Rattle.std.proofs.Common.{◌≡◌, sym, ap, ◌∙◌, subst}
use Rattle.std.proofs.lemmas.Result.{IfOk-weaker}
use Rattle.jump_meaning.specs.Effects.{Op, AppliesUnary, AppliesBinary, Converts, Judges}
use Rattle.jump_meaning.specs.Tasks.{Works}
use Rattle.step_tasks.specs.Effects.{IsDone, IsDoneOr, IsDoneOrAlways, IsLeftOrAlways}
use Rattle.step_tasks.specs.Tasks.{task_of}
use Rattle.step_tasks.proofs.ActLemmas.{same_op, left_or}
use Rattle.step_tasks.proofs.acting.act_on_values.Goals as goal

pub returns-in-Unary : goal.returns-in-Unary
returns-in-Unary c = record {
  ok = IfOk-weaker c.apply_unary.result (λ d. IsLeftOrAlways (AppliesUnary c.in-Unary.op c.in-Unary.kind) d c.args.values.now
      c.apply_unary.new.values) (λ d. (o : Op) → task_of c.args.task ≡ Works o → IsDoneOrAlways o d c.args.values.now c.apply_unary.new.values)
      (λ d k o h s tasks. subst (λ q. IsDoneOr q d s tasks tasks c.args.values.now c.apply_unary.new.values)
      (same_op o (AppliesUnary c.in-Unary.op c.in-Unary.kind) (sym (ap task_of c.in-Unary.is) ∙ h))
      (left_or (AppliesUnary c.in-Unary.op c.in-Unary.kind) d s c.args.values.now c.apply_unary.new.values (k s) tasks)) c.apply_unary.ensures.ok;
}

pub returns-in-Binary : goal.returns-in-Binary
returns-in-Binary c = record {
  ok = IfOk-weaker c.apply_binary.result (λ d. IsLeftOrAlways (AppliesBinary c.in-Binary.op c.in-Binary.j c.in-Binary.k) d c.args.values.now
      c.apply_binary.new.values) (λ d. (o : Op) → task_of c.args.task ≡ Works o → IsDoneOrAlways o d c.args.values.now c.apply_binary.new.values)
      (λ d k o h s tasks. subst (λ q. IsDoneOr q d s tasks tasks c.args.values.now c.apply_binary.new.values)
      (same_op o (AppliesBinary c.in-Binary.op c.in-Binary.j c.in-Binary.k) (sym (ap task_of c.in-Binary.is) ∙ h))
      (left_or (AppliesBinary c.in-Binary.op c.in-Binary.j c.in-Binary.k) d s c.args.values.now c.apply_binary.new.values (k s) tasks))
      c.apply_binary.ensures.ok;
}

pub returns-in_ok-convert_top-in-Convert : goal.returns-in_ok-convert_top-in-Convert
returns-in_ok-convert_top-in-Convert c = record {
  ok = λ o h s tasks. subst (λ q. IsDone q s tasks tasks c.args.values.now c.convert_top.new.values)
      (same_op o (Converts c.in-Convert.kind) (sym (ap task_of c.in-Convert.is) ∙ h)) (c.in_ok-convert_top-in-Convert.ensures.ok s tasks);
}

pub returns-in_ok-judge-in-Judge : goal.returns-in_ok-judge-in-Judge
returns-in_ok-judge-in-Judge c = record {
  ok = λ o h s tasks. subst (λ q. IsDone q s tasks tasks c.args.values.now c.judge.new.values) (same_op o Judges (sym (ap task_of c.in-Judge.is) ∙ h))
      (c.in_ok-judge-in-Judge.ensures.ok s tasks);
}

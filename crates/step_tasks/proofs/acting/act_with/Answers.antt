use Rattle.std.proofs.Common.{sym, subst}
use Rattle.std.proofs.lemmas.Result.{on_ok_weaker}
use Rattle.c_tree.specs.ExpressionTrees.{expression_tree}
use Rattle.step_tasks.specs.Effects.{IsDone, op_with}
use Rattle.step_tasks.proofs.acting.act_with.Goals as goal

pub returns-in-Compute : goal.returns-in-Compute
returns-in-Compute c = record {
  ok = on_ok_weaker c.compute.result (λ p. subst (λ r. IsDone (op_with r (expression_tree c.args.e.now)) c.args.store.now c.args.tasks.now
      c.compute.new.tasks c.args.values.now c.compute.new.values) (sym c.in-Compute.is) p) c.compute.ensures.ok;
}

pub returns-in-And : goal.returns-in-And
returns-in-And c = record {
  ok = on_ok_weaker c.and_then.result (λ p. subst (λ r. IsDone (op_with r (expression_tree c.args.e.now)) c.args.store.now c.args.tasks.now
      c.and_then.new.tasks c.args.values.now c.and_then.new.values) (sym c.in-And.is) (p c.args.store.now)) c.and_then.ensures.ok;
}

pub returns-in-Or : goal.returns-in-Or
returns-in-Or c = record {
  ok = on_ok_weaker c.or_else.result (λ p. subst (λ r. IsDone (op_with r (expression_tree c.args.e.now)) c.args.store.now c.args.tasks.now
      c.or_else.new.tasks c.args.values.now c.or_else.new.values) (sym c.in-Or.is) (p c.args.store.now)) c.or_else.ensures.ok;
}

pub returns-in-Decide : goal.returns-in-Decide
returns-in-Decide c = record {
  ok = on_ok_weaker c.decide.result (λ p. subst (λ r. IsDone (op_with r (expression_tree c.args.e.now)) c.args.store.now c.args.tasks.now
      c.decide.new.tasks c.args.values.now c.decide.new.values) (sym c.in-Decide.is) (p c.args.store.now)) c.decide.ensures.ok;
}

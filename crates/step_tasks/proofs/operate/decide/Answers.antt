use Rattle.std.proofs.Common.{◌∷◌, cond, ap, sym, ◌∙◌}
use Rattle.std.proofs.lemmas.Result.{on_ok_weaker}
use Rattle.c_tree.specs.declared.tree.Expression.{out-Expression}
use Rattle.c_tree.specs.ExpressionTrees.{expression_tree}
use Rattle.jump_meaning.specs.Effects.{Computes, conversion}
use Rattle.jump_meaning.specs.Tasks.{Works, works}
use Rattle.step_tasks.specs.Tasks.{decide_of, tasks_of}
use Rattle.step_tasks.proofs.NodeEffects.{decides}
use Rattle.step_tasks.proofs.EffectLemmas.{decided}
use Rattle.step_tasks.proofs.operate.decide.Goals as goal

pub returns-then-holds : goal.returns-then-holds
returns-then-holds c = record {
  ok = on_ok_weaker c.add.result (λ p. decided (decide_of (expression_tree c.args.e.now)) (expression_tree c.in-Conditional.b)
      (expression_tree c.in-Conditional.c) (out-Expression c.args.e.now).kind
      c.take_truth-holds.result c.args.tasks.now c.add.new.tasks c.args.values.now c.take_truth-holds.new.values
      (decides c.args.e.now c.in-Conditional.field-0 c.in-Conditional.b c.in-Conditional.c c.in-Conditional.is) c.take_truth-holds.ensures.value
      c.take_truth-holds.ensures.left
      (p ∙ ap (λ e. Works (Computes (expression_tree e)) ∷ tasks_of c.add_conversion.new.tasks) c.get.ensures
      ∙ ap (λ k. Works (Computes (expression_tree c.in-Conditional.b)) ∷ k) c.in_ok-add_conversion.ensures.ok
      ∙ sym (ap (λ b. works (cond b (Computes (expression_tree c.in-Conditional.b) ∷ conversion (out-Expression c.args.e.now).kind)
      (Computes (expression_tree c.in-Conditional.c) ∷ conversion (out-Expression c.args.e.now).kind)) (tasks_of c.args.tasks.now))
      c.if-holds.true))) c.add.ensures.ok;
}

pub returns-else-holds : goal.returns-else-holds
returns-else-holds c = record {
  ok = on_ok_weaker c.add-else-holds.result (λ p. decided (decide_of (expression_tree c.args.e.now)) (expression_tree c.in-Conditional.b)
      (expression_tree c.in-Conditional.c) (out-Expression c.args.e.now).kind
      c.take_truth-holds.result c.args.tasks.now c.add-else-holds.new.tasks c.args.values.now c.take_truth-holds.new.values
      (decides c.args.e.now c.in-Conditional.field-0 c.in-Conditional.b c.in-Conditional.c c.in-Conditional.is) c.take_truth-holds.ensures.value
      c.take_truth-holds.ensures.left
      (p ∙ ap (λ e. Works (Computes (expression_tree e)) ∷ tasks_of c.add_conversion.new.tasks) c.get-else-holds.ensures
      ∙ ap (λ k. Works (Computes (expression_tree c.in-Conditional.c)) ∷ k) c.in_ok-add_conversion.ensures.ok
      ∙ sym (ap (λ b. works (cond b (Computes (expression_tree c.in-Conditional.b) ∷ conversion (out-Expression c.args.e.now).kind)
      (Computes (expression_tree c.in-Conditional.c) ∷ conversion (out-Expression c.args.e.now).kind)) (tasks_of c.args.tasks.now))
      c.if-holds.false))) c.add-else-holds.ensures.ok;
}

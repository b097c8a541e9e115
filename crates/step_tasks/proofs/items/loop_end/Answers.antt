use Rattle.std.proofs.Common.{◌∷◌, option_map, ap, sym, ◌∙◌}
use Rattle.std.proofs.lemmas.Result.{on_ok_weaker}
use Rattle.c_tree.specs.ExpressionTrees.{expression_tree}
use Rattle.c_tree.specs.TestTrees.{test_tree}
use Rattle.c_tree.specs.Trees.{tree_of}
use Rattle.c_tree.proofs.TreeLaws.{tree-While, tree-Do, tree-For}
use Rattle.jump_meaning.specs.Step.{Goes, dropped}
use Rattle.jump_meaning.specs.Tasks.{Runs, Asks}
use Rattle.step_tasks.specs.Tasks.{turn_of, loop_of, head_of, tasks_of}
use Rattle.step_tasks.proofs.ControlLemmas.{goes_as}
use Rattle.step_tasks.proofs.items.loop_end.Goals as goal

pub returns-in-While : goal.returns-in-While
returns-in-While c = record {
  ok = on_ok_weaker c.add.result
      (λ p. goes_as loop_of (tree_of c.args.item.now) _ c.args.tasks.now c.add.new.tasks
      (ap tree_of c.in-While.is ∙ tree-While c.in-While.field-0 c.in-While.field-1)
      (λ b g. ap Goes (sym (p ∙ ap (λ y. Runs y ∷ (tasks_of c.args.tasks.now))
      (ap tree_of c.in-While.is ∙ tree-While c.in-While.field-0 c.in-While.field-1))))) c.add.ensures.ok;
}

pub returns-in-Do : goal.returns-in-Do
returns-in-Do c = record {
  ok = on_ok_weaker c.add_two.result
      (λ p. goes_as loop_of (tree_of c.args.item.now) _ c.args.tasks.now c.add_two.new.tasks (ap tree_of c.in-Do.is ∙ tree-Do c.in-Do.field-0 c.in-Do.t)
      (λ b g. ap Goes (sym (p ∙ ap (λ y. Asks (test_tree c.in-Do.t) ∷ turn_of y ∷ (tasks_of c.args.tasks.now))
      (ap tree_of c.in-Do.is ∙ tree-Do c.in-Do.field-0 c.in-Do.t))))) c.add_two.ensures.ok;
}

pub returns-in_ok-add-in-For : goal.returns-in_ok-add-in-For
returns-in_ok-add-in-For c = record {
  ok = on_ok_weaker c.add_step.result
      (λ p. goes_as loop_of (tree_of c.args.item.now) _ c.args.tasks.now c.add_step.new.tasks
      (ap tree_of c.in-For.is ∙ tree-For c.in-For.field-0 c.in-For.field-1 c.in-For.step c.in-For.field-3)
      (λ b g. ap Goes (sym (p ∙ ap (dropped (option_map expression_tree c.in-For.step))
      (c.in_ok-add-in-For.ensures.ok ∙ ap (λ y. head_of y ∷ (tasks_of c.args.tasks.now))
      (ap tree_of c.in-For.is ∙ tree-For c.in-For.field-0 c.in-For.field-1 c.in-For.step c.in-For.field-3)))))) c.add_step.ensures.ok;
}

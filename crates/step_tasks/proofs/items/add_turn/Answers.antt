use Rattle.std.proofs.Common.{◌∷◌, cond, option_map, refl, ap, sym, ◌∙◌}
use Rattle.std.proofs.lemmas.Result.{on_ok_weaker}
use Rattle.c_tree.specs.ExpressionTrees.{expression_tree}
use Rattle.c_tree.specs.TestTrees.{test_tree}
use Rattle.c_tree.specs.Trees.{tree_of, trees_of}
use Rattle.c_tree.proofs.TreeLaws.{tree-While, tree-Do, tree-For}
use Rattle.jump_meaning.specs.Operations.{holds}
use Rattle.jump_meaning.specs.Tasks.{Runs, WhileLoop, DoLoop, ForLoop, items, turn}
use Rattle.step_tasks.specs.Tasks.{loop_of, tasks_of}
use Rattle.step_tasks.proofs.ControlLemmas.{turned_as}
use Rattle.step_tasks.proofs.items.add_turn.Goals as goal

pub returns-in-While : goal.returns-in-While
returns-in-While c = record {
  ok = on_ok_weaker c.add_body.result (λ p. turned_as (tree_of c.args.item.now) _ c.args.holds c.args.tasks.now c.add_body.new.tasks
      (λ v. cond (holds v) (turn (WhileLoop (test_tree c.in-While.field-0) (trees_of c.in-While.a)) (tasks_of c.args.tasks.now))
      (tasks_of c.args.tasks.now)) (ap tree_of c.in-While.is ∙ tree-While c.in-While.field-0 c.in-While.a) (λ b g. refl)
      (λ v h. p ∙ ap (λ xs. cond c.args.holds (items (trees_of xs) (loop_of (tree_of c.args.item.now) ∷ (tasks_of c.args.tasks.now)))
      (tasks_of c.args.tasks.now)) c.as_slice.ensures.value ∙
      ap (λ y. cond c.args.holds (items (trees_of c.in-While.a) (loop_of y ∷ (tasks_of c.args.tasks.now))) (tasks_of c.args.tasks.now))
      (ap tree_of c.in-While.is ∙ tree-While c.in-While.field-0 c.in-While.a) ∙
      sym (ap (λ b. cond b (turn (WhileLoop (test_tree c.in-While.field-0) (trees_of c.in-While.a)) (tasks_of c.args.tasks.now))
      (tasks_of c.args.tasks.now)) h)))
      c.add_body.ensures.ok;
}

pub returns-in-For : goal.returns-in-For
returns-in-For c = record {
  ok = on_ok_weaker c.add_body-in-For.result (λ p. turned_as (tree_of c.args.item.now) _ c.args.holds c.args.tasks.now c.add_body-in-For.new.tasks
      (λ v. cond (holds v) (turn (ForLoop (option_map expression_tree c.in-For.field-1) (option_map expression_tree c.in-For.field-2)
      (trees_of c.in-For.a)) (tasks_of c.args.tasks.now)) (tasks_of c.args.tasks.now))
      (ap tree_of c.in-For.is ∙ tree-For c.in-For.field-0 c.in-For.field-1 c.in-For.field-2 c.in-For.a) (λ b g. refl)
      (λ v h. p ∙ ap (λ xs. cond c.args.holds (items (trees_of xs) (loop_of (tree_of c.args.item.now) ∷ (tasks_of c.args.tasks.now)))
      (tasks_of c.args.tasks.now)) c.as_slice-in-For.ensures.value ∙
      ap (λ y. cond c.args.holds (items (trees_of c.in-For.a) (loop_of y ∷ (tasks_of c.args.tasks.now))) (tasks_of c.args.tasks.now))
      (ap tree_of c.in-For.is ∙ tree-For c.in-For.field-0 c.in-For.field-1 c.in-For.field-2 c.in-For.a) ∙
      sym (ap (λ b. cond b (turn (ForLoop (option_map expression_tree c.in-For.field-1) (option_map expression_tree c.in-For.field-2)
      (trees_of c.in-For.a)) (tasks_of c.args.tasks.now)) (tasks_of c.args.tasks.now)) h)))
      c.add_body-in-For.ensures.ok;
}

pub returns-then-holds : goal.returns-then-holds
returns-then-holds c = record {
  ok = on_ok_weaker c.add.result (λ p. turned_as (tree_of c.args.item.now) _ c.args.holds c.args.tasks.now c.add.new.tasks
      (λ v. cond (holds v) (turn (DoLoop (trees_of c.in-Do.field-0) (test_tree c.in-Do.field-1)) (tasks_of c.args.tasks.now))
      (tasks_of c.args.tasks.now)) (ap tree_of c.in-Do.is ∙ tree-Do c.in-Do.field-0 c.in-Do.field-1) (λ b g. refl)
      (λ v h. p ∙ ap (λ y. Runs y ∷ (tasks_of c.args.tasks.now)) (ap tree_of c.in-Do.is ∙ tree-Do c.in-Do.field-0 c.in-Do.field-1) ∙
      sym (ap (λ b. cond b (turn (DoLoop (trees_of c.in-Do.field-0) (test_tree c.in-Do.field-1)) (tasks_of c.args.tasks.now))
      (tasks_of c.args.tasks.now)) (h ∙ c.if-holds.true))))
      c.add.ensures.ok;
}

pub returns-else-holds : goal.returns-else-holds
returns-else-holds c = record {
  ok = turned_as (tree_of c.args.item.now) _ c.args.holds c.args.tasks.now c.args.tasks.now
      (λ v. cond (holds v) (turn (DoLoop (trees_of c.in-Do.field-0) (test_tree c.in-Do.field-1)) (tasks_of c.args.tasks.now))
      (tasks_of c.args.tasks.now)) (ap tree_of c.in-Do.is ∙ tree-Do c.in-Do.field-0 c.in-Do.field-1) (λ b g. refl)
      (λ v h. sym (ap (λ b. cond b (turn (DoLoop (trees_of c.in-Do.field-0) (test_tree c.in-Do.field-1)) (tasks_of c.args.tasks.now))
      (tasks_of c.args.tasks.now)) (h ∙ c.if-holds.false)));
}

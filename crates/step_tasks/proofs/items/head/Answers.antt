use Rattle.std.proofs.Common.{◌∷◌, option_map, ap, sym, ◌∙◌}
use Rattle.std.proofs.lemmas.Result.{on_ok_weaker}
use Rattle.c_tree.specs.ExpressionTrees.{expression_tree}
use Rattle.c_tree.specs.Trees.{For, tree_of, trees_of}
use Rattle.c_tree.proofs.TreeLaws.{tree-For}
use Rattle.jump_meaning.specs.Effects.{Computes}
use Rattle.jump_meaning.specs.Step.{Goes}
use Rattle.jump_meaning.specs.Tasks.{Works, items}
use Rattle.step_tasks.specs.Tasks.{turn_of, loop_of, head_of, tasks_of}
use Rattle.step_tasks.proofs.ControlLemmas.{goes_as}
use Rattle.step_tasks.proofs.items.head.Goals as goal

pub returns-in-Some : goal.returns-in-Some
returns-in-Some c = record {
  ok = on_ok_weaker c.add_two.result
      (λ p. goes_as head_of (tree_of c.args.item.now) _ c.args.tasks.now c.add_two.new.tasks
      ((ap tree_of c.in-For.is ∙ tree-For c.in-For.field-0 c.in-For.test c.in-For.field-2 c.in-For.a) ∙
      ap (λ t. For (trees_of c.in-For.field-0) (option_map expression_tree t) (option_map expression_tree c.in-For.field-2) (trees_of c.in-For.a))
      c.in-Some.is) (λ b g. ap Goes (sym (p ∙ ap (λ e. Works (Computes (expression_tree e)) ∷ turn_of
      (tree_of c.args.item.now) ∷ (tasks_of c.args.tasks.now)) c.get.ensures ∙
      ap (λ y. Works (Computes (expression_tree c.in-Some.e)) ∷ turn_of y ∷ (tasks_of c.args.tasks.now))
      ((ap tree_of c.in-For.is ∙ tree-For c.in-For.field-0 c.in-For.test c.in-For.field-2 c.in-For.a) ∙
      ap (λ t. For (trees_of c.in-For.field-0) (option_map expression_tree t) (option_map expression_tree c.in-For.field-2) (trees_of c.in-For.a))
      c.in-Some.is))))) c.add_two.ensures.ok;
}

pub returns-in-None : goal.returns-in-None
returns-in-None c = record {
  ok = on_ok_weaker c.add_body.result
      (λ p. goes_as head_of (tree_of c.args.item.now) _ c.args.tasks.now c.add_body.new.tasks
      ((ap tree_of c.in-For.is ∙ tree-For c.in-For.field-0 c.in-For.test c.in-For.field-2 c.in-For.a) ∙
      ap (λ t. For (trees_of c.in-For.field-0) (option_map expression_tree t) (option_map expression_tree c.in-For.field-2) (trees_of c.in-For.a))
      c.in-None.is) (λ b g. ap Goes (sym (p ∙ ap (λ xs. items (trees_of xs) (loop_of (tree_of c.args.item.now) ∷ (tasks_of c.args.tasks.now)))
      c.as_slice.ensures.value ∙ ap (λ y. items (trees_of c.in-For.a) (loop_of y ∷ (tasks_of c.args.tasks.now)))
      ((ap tree_of c.in-For.is ∙ tree-For c.in-For.field-0 c.in-For.test c.in-For.field-2 c.in-For.a) ∙
      ap (λ t. For (trees_of c.in-For.field-0) (option_map expression_tree t) (option_map expression_tree c.in-For.field-2) (trees_of c.in-For.a))
      c.in-None.is))))) c.add_body.ensures.ok;
}

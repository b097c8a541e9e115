use Rattle.std.proofs.Common.{◌∷◌, option_map, refl, ap, sym, ◌∙◌}
use Rattle.std.proofs.lemmas.Result.{on_ok_weaker}
use Rattle.c_tree.specs.ExpressionTrees.{expression_tree}
use Rattle.c_tree.specs.TestTrees.{test_tree, selector_tree}
use Rattle.c_tree.specs.Trees.{tree_of, trees_of}
use Rattle.c_tree.proofs.TreeLaws.{tree-Evaluate, tree-Return, tree-If, tree-While, tree-Do, tree-For, tree-Switch, tree-Block, tree-Break, tree-Continue, tree-Mark, tree-Arrival, tree-Note}
use Rattle.jump_meaning.specs.Step.{Goes}
use Rattle.jump_meaning.specs.Tasks.{Runs, Asks, AsksSelector, items}
use Rattle.step_tasks.specs.Tasks.{branch_of, turn_of, loop_of, head_of, enter_of, tasks_of}
use Rattle.step_tasks.proofs.ControlLemmas.{goes_as, returns_view}
use Rattle.step_tasks.proofs.items.expand.Goals as goal

pub returns-in-Evaluate : goal.returns-in-Evaluate
returns-in-Evaluate c = record {
  ok = on_ok_weaker c.add_two.result
      (λ p. goes_as Runs (tree_of c.args.item.now) _ c.args.tasks.now c.add_two.new.tasks (ap tree_of c.in-Evaluate.is ∙ tree-Evaluate c.in-Evaluate.e)
      (λ b g. ap Goes (sym (p)))) c.add_two.ensures.ok;
}

pub returns-in-Return : goal.returns-in-Return
returns-in-Return c = record {
  ok = on_ok_weaker c.add_return.result
      (λ p. goes_as Runs (tree_of c.args.item.now) _ c.args.tasks.now c.add_return.new.tasks (ap tree_of c.in-Return.is ∙ tree-Return c.in-Return.value)
      (λ b g. returns_view (option_map expression_tree c.in-Return.value) (tasks_of c.args.tasks.now) b g ∙ ap Goes (sym p))) c.add_return.ensures.ok;
}

pub returns-in-If : goal.returns-in-If
returns-in-If c = record {
  ok = on_ok_weaker c.add_two-in-If.result
      (λ p. goes_as Runs (tree_of c.args.item.now) _ c.args.tasks.now c.add_two-in-If.new.tasks
      (ap tree_of c.in-If.is ∙ tree-If c.in-If.t c.in-If.field-1 c.in-If.field-2)
      (λ b g. ap Goes (sym (p ∙ ap (λ y. Asks (test_tree c.in-If.t) ∷ branch_of y ∷ (tasks_of c.args.tasks.now))
      (ap tree_of c.in-If.is ∙ tree-If c.in-If.t c.in-If.field-1 c.in-If.field-2))))) c.add_two-in-If.ensures.ok;
}

pub returns-in-While : goal.returns-in-While
returns-in-While c = record {
  ok = on_ok_weaker c.add_two-in-While.result
      (λ p. goes_as Runs (tree_of c.args.item.now) _ c.args.tasks.now c.add_two-in-While.new.tasks
      (ap tree_of c.in-While.is ∙ tree-While c.in-While.t c.in-While.field-1)
      (λ b g. ap Goes (sym (p ∙ ap (λ y. Asks (test_tree c.in-While.t) ∷ turn_of y ∷ (tasks_of c.args.tasks.now))
      (ap tree_of c.in-While.is ∙ tree-While c.in-While.t c.in-While.field-1))))) c.add_two-in-While.ensures.ok;
}

pub returns-in_ok-add-in-Do : goal.returns-in_ok-add-in-Do
returns-in_ok-add-in-Do c = record {
  ok = on_ok_weaker c.add_items.result
      (λ p. goes_as Runs (tree_of c.args.item.now) _ c.args.tasks.now c.add_items.new.tasks (ap tree_of c.in-Do.is ∙ tree-Do c.in-Do.a c.in-Do.field-1)
      (λ b g. ap Goes (sym (p ∙ ap (λ xs. items (trees_of xs) (tasks_of c.add.new.tasks)) c.as_slice.ensures.value ∙
      ap (items (trees_of c.in-Do.a)) (c.in_ok-add-in-Do.ensures.ok ∙ ap (λ y. loop_of y ∷ (tasks_of c.args.tasks.now))
      (ap tree_of c.in-Do.is ∙ tree-Do c.in-Do.a c.in-Do.field-1)))))) c.add_items.ensures.ok;
}

pub returns-in_ok-add-in-For : goal.returns-in_ok-add-in-For
returns-in_ok-add-in-For c = record {
  ok = on_ok_weaker c.add_items-in-For.result
      (λ p. goes_as Runs (tree_of c.args.item.now) _ c.args.tasks.now c.add_items-in-For.new.tasks
      (ap tree_of c.in-For.is ∙ tree-For c.in-For.first c.in-For.field-1 c.in-For.field-2 c.in-For.field-3)
      (λ b g. ap Goes (sym (p ∙ ap (λ xs. items (trees_of xs) (tasks_of c.add-in-For.new.tasks)) c.as_slice-in-For.ensures.value ∙
      ap (items (trees_of c.in-For.first)) (c.in_ok-add-in-For.ensures.ok ∙
      ap (λ y. head_of y ∷ (tasks_of c.args.tasks.now)) (ap tree_of c.in-For.is ∙
      tree-For c.in-For.first c.in-For.field-1 c.in-For.field-2 c.in-For.field-3)))))) c.add_items-in-For.ensures.ok;
}

pub returns-in-Switch : goal.returns-in-Switch
returns-in-Switch c = record {
  ok = on_ok_weaker c.add_two-in-Switch.result
      (λ p. goes_as Runs (tree_of c.args.item.now) _ c.args.tasks.now c.add_two-in-Switch.new.tasks
      (ap tree_of c.in-Switch.is ∙ tree-Switch c.in-Switch.s c.in-Switch.field-1)
      (λ b g. ap Goes (sym (p ∙ ap (λ y. AsksSelector (selector_tree c.in-Switch.s) ∷ enter_of y ∷ (tasks_of c.args.tasks.now))
      (ap tree_of c.in-Switch.is ∙ tree-Switch c.in-Switch.s c.in-Switch.field-1))))) c.add_two-in-Switch.ensures.ok;
}

pub returns-in-Block : goal.returns-in-Block
returns-in-Block c = record {
  ok = on_ok_weaker c.add_items-in-Block.result
      (λ p. goes_as Runs (tree_of c.args.item.now) _ c.args.tasks.now c.add_items-in-Block.new.tasks
      (ap tree_of c.in-Block.is ∙ tree-Block c.in-Block.a)
      (λ b g. ap Goes (sym (p ∙ ap (λ xs. items (trees_of xs)
      (tasks_of c.args.tasks.now)) c.as_slice-in-Block.ensures.value)))) c.add_items-in-Block.ensures.ok;
}

pub returns-in-Break : goal.returns-in-Break
returns-in-Break c = record {
  ok = goes_as Runs (tree_of c.args.item.now) _ c.args.tasks.now c.cut.new.tasks (ap tree_of c.in-Break.is ∙ tree-Break)
      (λ b g. ap Goes (sym c.cut.ensures));
}

pub returns-in-Continue : goal.returns-in-Continue
returns-in-Continue c = record {
  ok = goes_as Runs (tree_of c.args.item.now) _ c.args.tasks.now c.cut_to.new.tasks
      (ap tree_of c.in-Continue.is ∙ tree-Continue) (λ b g. ap Goes (sym c.cut_to.ensures));
}

pub returns-in-Mark : goal.returns-in-Mark
returns-in-Mark c = record {
  ok = goes_as Runs (tree_of c.args.item.now) _ c.args.tasks.now c.args.tasks.now
      (ap tree_of c.in-Mark.is ∙ tree-Mark c.in-Mark.field-0) (λ b g. refl);
}

pub returns-in-Arrival : goal.returns-in-Arrival
returns-in-Arrival c = record {
  ok = goes_as Runs (tree_of c.args.item.now) _ c.args.tasks.now c.args.tasks.now
      (ap tree_of c.in-Arrival.is ∙ tree-Arrival c.in-Arrival.field-0) (λ b g. refl);
}

pub returns-in-Note : goal.returns-in-Note
returns-in-Note c = record {
  ok = goes_as Runs (tree_of c.args.item.now) _ c.args.tasks.now c.args.tasks.now
      (ap tree_of c.in-Note.is ∙ tree-Note c.in-Note.field-0) (λ b g. refl);
}

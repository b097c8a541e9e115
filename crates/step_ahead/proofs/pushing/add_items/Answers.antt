use Rattle.std.proofs.Common.{ap, sym, ◌∙◌}
use Rattle.c_tree.specs.Trees.{trees_of}
use Rattle.c_tree.proofs.TreeLaws.{trees-none}
use Rattle.jump_meaning.specs.Tasks.{items}
use Rattle.step_tasks.specs.Tasks.{tasks_of}
use Rattle.step_tasks.proofs.TopLemmas.{is_emptied}
use Rattle.step_ahead.proofs.pushing.add_items.Goals as goal

pub returns-then-is_empty : goal.returns-then-is_empty
returns-then-is_empty c = record {
  ok = sym (ap (λ xs. items (trees_of xs) (tasks_of c.args.tasks.now))
      (is_emptied c.is_empty.result c.args.list.now c.is_empty.ensures c.if-is_empty.true) ∙ ap (λ a. items a (tasks_of c.args.tasks.now)) trees-none);
}

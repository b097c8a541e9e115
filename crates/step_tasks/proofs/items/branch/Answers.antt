use Rattle.std.proofs.Common.{◌∷◌, cond, ap, sym, ◌∙◌}
use Rattle.std.proofs.lemmas.Result.{on_ok_weaker}
use Rattle.c_tree.specs.Trees.{tree_of, trees_of}
use Rattle.c_tree.proofs.TreeLaws.{tree-If}
use Rattle.jump_meaning.specs.Operations.{holds}
use Rattle.jump_meaning.specs.Step.{view}
use Rattle.jump_meaning.specs.Tasks.{items}
use Rattle.step_tasks.specs.Controls.{body_of, guards_of}
use Rattle.step_tasks.specs.Tasks.{branch_of, tasks_of}
use Rattle.step_tasks.proofs.ControlLemmas.{takes}
use Rattle.step_tasks.proofs.items.branch.Goals as goal

pub returns-then-holds-clause-ok : goal.returns-then-holds-clause-ok
returns-then-holds-clause-ok c =
    on_ok_weaker c.add_items.result
    (λ p. takes (branch_of (tree_of c.args.item.now)) c.args.call.now c.add_items.new.tasks c.take_truth-holds.new.values
    (λ v. cond (holds v) (items (trees_of c.in-If.a) (tasks_of c.args.call.now.tasks)) (items (trees_of c.in-If.b) (tasks_of c.args.call.now.tasks)))
    (ap (λ y. view (body_of c.args.call.now.function.now) (guards_of c.args.call.now.guards) (branch_of y ∷ (tasks_of c.args.call.now.tasks)))
    (ap tree_of c.in-If.is ∙ tree-If c.in-If.field-0 c.in-If.a c.in-If.b))
    (λ ns. p ∙ ap (λ xs. items (trees_of xs) (tasks_of c.args.call.now.tasks)) c.as_slice.ensures.value ∙
    sym (ap (λ b. cond b (items (trees_of c.in-If.a) (tasks_of c.args.call.now.tasks))
    (items (trees_of c.in-If.b) (tasks_of c.args.call.now.tasks))) (sym (c.take_truth-holds.ensures.value ns) ∙ c.if-holds.true)))
    c.take_truth-holds.ensures.left)
    c.add_items.ensures.ok

pub returns-else-holds-clause-ok : goal.returns-else-holds-clause-ok
returns-else-holds-clause-ok c =
    on_ok_weaker c.add_items-else-holds.result
    (λ p. takes (branch_of (tree_of c.args.item.now)) c.args.call.now c.add_items-else-holds.new.tasks c.take_truth-holds.new.values
    (λ v. cond (holds v) (items (trees_of c.in-If.a) (tasks_of c.args.call.now.tasks)) (items (trees_of c.in-If.b) (tasks_of c.args.call.now.tasks)))
    (ap (λ y. view (body_of c.args.call.now.function.now) (guards_of c.args.call.now.guards) (branch_of y ∷ (tasks_of c.args.call.now.tasks)))
    (ap tree_of c.in-If.is ∙ tree-If c.in-If.field-0 c.in-If.a c.in-If.b))
    (λ ns. p ∙ ap (λ xs. items (trees_of xs) (tasks_of c.args.call.now.tasks)) c.as_slice-else-holds.ensures.value ∙
    sym (ap (λ b. cond b (items (trees_of c.in-If.a) (tasks_of c.args.call.now.tasks))
    (items (trees_of c.in-If.b) (tasks_of c.args.call.now.tasks))) (sym (c.take_truth-holds.ensures.value ns) ∙ c.if-holds.false)))
    c.take_truth-holds.ensures.left)
    c.add_items-else-holds.ensures.ok

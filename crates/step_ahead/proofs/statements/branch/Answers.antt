use Rattle.std.proofs.Common.{cond, ap, ◌∙◌}
use Rattle.c_tree.specs.ExpressionTrees.{expression_tree}
use Rattle.c_tree.specs.Trees.{trees_of}
use Rattle.jump_meaning.specs.Tasks.{items}
use Rattle.step_tasks.specs.Tasks.{tasks_of}
use Rattle.step_tasks.proofs.TopLemmas.{below}
use Rattle.step_ahead.proofs.AheadLemmas.{stays, reaches_as, if_reaches}
use Rattle.step_ahead.proofs.statements.branch.Goals as goal

pub returns-in_default-clause-ok : goal.returns-in_default-clause-ok
returns-in_default-clause-ok c x below q e = stays c.args.store.now (tasks_of c.args.tasks.now)

pub returns-clause-ok : goal.returns-clause-ok
returns-clause-ok c x below q e =
    let s = c.args.store.now in
    let a = trees_of c.args.a.now in
    let b = trees_of c.args.b.now in
    let k = items (trees_of c.args.rest.now) (tasks_of below) in
    let r = c.in-Some.asked in
    reaches_as s s r.steps (tasks_of c.args.tasks.now) _ (items (cond r.holds a b) k) (tasks_of c.add_chosen.new.tasks) (ap tasks_of q ∙ e)
    (c.in_ok-add_chosen.ensures.ok ∙ ap (items (cond r.holds a b)) (c.in_ok-go_on.ensures.ok x below q))
    (if_reaches s (expression_tree c.args.e.now) a b k c.args.most r c.in-Some.ensures)

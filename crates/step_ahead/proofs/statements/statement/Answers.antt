use Rattle.std.proofs.Common.{◌∷◌, option_map, ap, ◌∙◌}
use Rattle.std.proofs.lemmas.Result.{IfOk-weaker}
use Rattle.c_tree.specs.ExpressionTrees.{expression_tree}
use Rattle.c_tree.specs.Trees.{Return, tree_of, trees_of}
use Rattle.c_tree.proofs.TreeLaws.{tree-Evaluate, tree-Return}
use Rattle.jump_meaning.specs.Tasks.{Runs, items}
use Rattle.step_tasks.specs.Tasks.{tasks_of}
use Rattle.step_ahead.proofs.AheadLemmas.{stays, goes_on}
use Rattle.step_ahead.proofs.statements.statement.Goals as goal

pub returns-in-Evaluate-clause-ok : goal.returns-in-Evaluate-clause-ok
returns-in-Evaluate-clause-ok c =
    IfOk-weaker c.evaluate.result _ _
    (λ n w x below q e. w x below q (e ∙ ap (λ y. Runs y ∷ items (trees_of c.args.rest.now) (tasks_of below))
    (ap tree_of c.in-Evaluate.is ∙ tree-Evaluate c.in-Evaluate.e))) c.evaluate.ensures.ok

pub returns-in-Some-clause-ok : goal.returns-in-Some-clause-ok
returns-in-Some-clause-ok c =
    let i = ap tree_of c.in-Return.is ∙ tree-Return c.in-Return.value ∙ ap (λ o. Return (option_map expression_tree o)) c.in-Some.is in
    IfOk-weaker c.begin_return.result _ _
    (λ n w x below q e. w x below q (e ∙ ap (λ y. Runs y ∷ items (trees_of c.args.rest.now) (tasks_of below)) i)) c.begin_return.ensures.ok

pub returns-in-None-clause-ok : goal.returns-in-None-clause-ok
returns-in-None-clause-ok c x below q e =
    goes_on c.args.store.now c.args.store.now 0 c.args.tasks.now c.args.tasks.now c.args.values.now (stays c.args.store.now (tasks_of c.args.tasks.now))

pub returns-in_default-clause-ok : goal.returns-in_default-clause-ok
returns-in_default-clause-ok c =
    IfOk-weaker c.choose.result _ _
    (λ n w x below q e. goes_on c.args.store.now c.args.store.now n c.args.tasks.now c.choose.new.tasks c.args.values.now (w x below q e)) c.choose.ensures.ok

use Rattle.std.proofs.Common.{◌+◌, refl, ap, ◌∙◌, subst}
use Rattle.std.proofs.lemmas.Result.{IfOk-weaker}
use Rattle.c_tree.specs.ExpressionTrees.{expression_tree}
use Rattle.c_tree.specs.Trees.{trees_of}
use Rattle.jump_meaning.specs.Tasks.{items}
use Rattle.step_tasks.specs.Tasks.{tasks_of}
use Rattle.step_ahead.specs.Ahead.{GoesOn}
use Rattle.step_ahead.proofs.AheadLemmas.{goes_on, reaches_as, statement_reaches}
use Rattle.step_ahead.proofs.statements.evaluate.Goals as goal

pub returns-in-None-clause-ok : goal.returns-in-None-clause-ok
returns-in-None-clause-ok c =
    let t = c.evaluated.new.store in
    IfOk-weaker c.begin_statement.result _ _
    (λ n w x below q e. subst (λ s. GoesOn s t n c.args.tasks.now c.begin_statement.new.tasks c.args.values.now c.begin_statement.new.values)
    c.in-None.ensures.done (w x below q e)) c.begin_statement.ensures.ok

pub returns-in_ok-go_on-in-Some-clause-ok : goal.returns-in_ok-go_on-in-Some-clause-ok
returns-in_ok-go_on-in-Some-clause-ok c x below q e =
    let s = c.args.store.now in
    let t = c.evaluated.new.store in
    let k = items (trees_of c.args.rest.now) (tasks_of below) in
    let n = c.in-Some.steps in
    goes_on s t (n + 1) c.args.tasks.now c.go_on.new.tasks c.args.values.now
    (reaches_as s t (n + 1) (tasks_of c.args.tasks.now) _ k (tasks_of c.go_on.new.tasks) (ap tasks_of q ∙ e) (c.in_ok-go_on-in-Some.ensures.ok x below q)
    (statement_reaches s t (expression_tree c.args.e.now) n (n + 1) k c.in-Some.ensures.done.1 refl))

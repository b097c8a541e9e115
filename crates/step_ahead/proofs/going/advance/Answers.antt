use Rattle.std.proofs.Common.{◌∷◌, refl, ap, ◌∙◌, arith}
use Rattle.std.proofs.lemmas.Result.{IfOk-weaker}
use Rattle.c_tree.specs.Trees.{trees_of}
use Rattle.c_tree.proofs.TreeLaws.{trees-more}
use Rattle.jump_meaning.specs.Tasks.{items}
use Rattle.step_tasks.specs.Tasks.{computes, work_of, task_of, tasks_of}
use Rattle.step_tasks.specs.declared.work.Task.TheVariants as My
use Rattle.step_tasks.proofs.TopLemmas.{below, on_top, first_and_rest}
use Rattle.step_ahead.proofs.AheadLemmas.{stays, goes_on}
use Rattle.step_ahead.proofs.going.advance.Goals as goal

pub returns-in_default-clause-ok : goal.returns-in_default-clause-ok
returns-in_default-clause-ok c = goes_on c.args.store.now c.args.store.now 0 c.args.tasks.now c.args.tasks.now c.args.values.now
    (stays c.args.store.now (tasks_of c.args.tasks.now))

pub returns-in-Items-len1-up-clause-ok : goal.returns-in-Items-len1-up-clause-ok
returns-in-Items-len1-up-clause-ok c =
    let list = c.in-Items-len1-up.field-0.now in
    let k = tasks_of (below c.args.tasks.now) in
    let split = first_and_rest list c.item-item.result (omega (arith, c.in-Items-len1-up.len_at_least)) c.item-item.is in
    let e = ap (λ w. work_of w k) c.in-Items-len1-up.is ∙ ap (λ xs. items (trees_of xs) k) split ∙ ap (λ a. items a k) (trees-more c.item-item.result _) in
    IfOk-weaker c.statement.result _ _
    (λ n w. w c.in-Some.work.now (below c.args.tasks.now) (on_top c.in-Some.work.now c.args.tasks.now c.in-Some.ensures) e)
    c.statement.ensures.ok

pub returns-in-Arguments-len1-up-clause-ok : goal.returns-in-Arguments-len1-up-clause-ok
returns-in-Arguments-len1-up-clause-ok c =
    let list = c.in-Arguments-len1-up.field-0.now in
    let k = tasks_of (below c.args.tasks.now) in
    let split = first_and_rest list c.e-item.result (omega (arith, c.in-Arguments-len1-up.len_at_least)) c.e-item.is in
    let e = ap (λ w. work_of w k) c.in-Arguments-len1-up.is ∙ ap (λ xs. computes xs k) split in
    IfOk-weaker c.argument.result _ _
    (λ n w. w c.in-Some.work.now (below c.args.tasks.now) (on_top c.in-Some.work.now c.args.tasks.now c.in-Some.ensures) e)
    c.argument.ensures.ok

pub returns-in-Find-clause-ok : goal.returns-in-Find-clause-ok
returns-in-Find-clause-ok c =
    let k = tasks_of (below c.args.tasks.now) in
    let e = ap (λ w. work_of w k) c.in-One.is ∙ ap (λ t. task_of t ∷ k) c.in-Find.is in
    IfOk-weaker c.reach.result _ _ (λ n w. w c.in-Some.work.now (below c.args.tasks.now)
    (on_top c.in-Some.work.now c.args.tasks.now c.in-Some.ensures) e) c.reach.ensures.ok

pub returns-in_ok-put-in-Store-clause-ok : goal.returns-in_ok-put-in-Store-clause-ok
returns-in_ok-put-in-Store-clause-ok c =
    let k = tasks_of (below c.args.tasks.now) in
    let e = ap (λ w. work_of w k) c.in-One.is ∙ ap (λ t. task_of t ∷ k) c.in-Store.is in
    c.in_ok-put-in-Store.ensures.ok c.in-Some.work.now (below c.args.tasks.now) (on_top c.in-Some.work.now c.args.tasks.now c.in-Some.ensures) e

pub returns-in-DropValue-clause-ok : goal.returns-in-DropValue-clause-ok
returns-in-DropValue-clause-ok c =
    let k = tasks_of (below c.args.tasks.now) in
    let e = ap (λ w. work_of w k) c.in-One.is ∙ ap (λ t. task_of t ∷ k) c.in-DropValue.is in
    c.let_go.ensures c.in-Some.work.now (below c.args.tasks.now) (on_top c.in-Some.work.now c.args.tasks.now c.in-Some.ensures) e

pub returns-in-Loop-clause-ok : goal.returns-in-Loop-clause-ok
returns-in-Loop-clause-ok c =
    let k = tasks_of (below c.args.tasks.now) in
    let e = ap (λ w. work_of w k) c.in-One.is ∙ ap (λ t. task_of t ∷ k) c.in-Of.is ∙ ap (λ s. task_of (My.Of s c.in-Of.item) ∷ k) c.in-Loop.is in
    IfOk-weaker c.loop_end.result _ _
    (λ n w. goes_on c.args.store.now c.loop_end.new.store n c.args.tasks.now c.loop_end.new.tasks c.args.values.now
    (w c.in-Some.work.now (below c.args.tasks.now) (on_top c.in-Some.work.now c.args.tasks.now c.in-Some.ensures) e))
    c.loop_end.ensures.ok

pub returns-in-Head-clause-ok : goal.returns-in-Head-clause-ok
returns-in-Head-clause-ok c =
    let k = tasks_of (below c.args.tasks.now) in
    let e = ap (λ w. work_of w k) c.in-One.is ∙ ap (λ t. task_of t ∷ k) c.in-Of.is ∙ ap (λ s. task_of (My.Of s c.in-Of.item) ∷ k) c.in-Head.is in
    IfOk-weaker c.head.result _ _
    (λ n w. goes_on c.args.store.now c.args.store.now n c.args.tasks.now c.head.new.tasks c.args.values.now
    (w c.in-Some.work.now (below c.args.tasks.now) (on_top c.in-Some.work.now c.args.tasks.now c.in-Some.ensures) e))
    c.head.ensures.ok

pub returns-in-Compute-clause-ok : goal.returns-in-Compute-clause-ok
returns-in-Compute-clause-ok c =
    let k = tasks_of (below c.args.tasks.now) in
    let e = ap (λ w. work_of w k) c.in-One.is ∙ ap (λ t. task_of t ∷ k) c.in-With.is ∙ ap (λ r. task_of (My.With r c.in-With.e) ∷ k) c.in-Compute.is in
    IfOk-weaker c.leave.result _ _ (λ n w. w c.in-Some.work.now (below c.args.tasks.now)
    (on_top c.in-Some.work.now c.args.tasks.now c.in-Some.ensures) e) c.leave.ensures.ok

pub returns-in_default-stage : goal.returns-in_default-stage
returns-in_default-stage c = record {
  names = refl;
  most = omega arith;
  ok = goes_on c.args.store.now c.args.store.now 0 c.args.tasks.now c.args.tasks.now c.args.values.now (stays c.args.store.now (tasks_of c.args.tasks.now));
}

pub returns-in_default-role : goal.returns-in_default-role
returns-in_default-role c = record {
  names = refl;
  most = omega arith;
  ok = goes_on c.args.store.now c.args.store.now 0 c.args.tasks.now c.args.tasks.now c.args.values.now (stays c.args.store.now (tasks_of c.args.tasks.now));
}

pub returns-in_default-task : goal.returns-in_default-task
returns-in_default-task c = record {
  names = refl;
  most = omega arith;
  ok = goes_on c.args.store.now c.args.store.now 0 c.args.tasks.now c.args.tasks.now c.args.values.now (stays c.args.store.now (tasks_of c.args.tasks.now));
}

pub returns-in_default-work-clause-ok : goal.returns-in_default-work-clause-ok
returns-in_default-work-clause-ok c = goes_on c.args.store.now c.args.store.now 0 c.args.tasks.now c.args.tasks.now c.args.values.now
    (stays c.args.store.now (tasks_of c.args.tasks.now))

pub returns-in_default-work-2-clause-ok : goal.returns-in_default-work-2-clause-ok
returns-in_default-work-2-clause-ok c = goes_on c.args.store.now c.args.store.now 0 c.args.tasks.now c.args.tasks.now c.args.values.now
    (stays c.args.store.now (tasks_of c.args.tasks.now))

pub returns-in_default-work-3-clause-ok : goal.returns-in_default-work-3-clause-ok
returns-in_default-work-3-clause-ok c = goes_on c.args.store.now c.args.store.now 0 c.args.tasks.now c.args.tasks.now c.args.values.now
    (stays c.args.store.now (tasks_of c.args.tasks.now))

pub returns-then-most-eq0-clause-ok : goal.returns-then-most-eq0-clause-ok
returns-then-most-eq0-clause-ok c = goes_on c.args.store.now c.args.store.now 0 c.args.tasks.now c.args.tasks.now c.args.values.now
    (stays c.args.store.now (tasks_of c.args.tasks.now))

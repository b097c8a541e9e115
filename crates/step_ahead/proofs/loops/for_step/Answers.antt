use Rattle.std.proofs.Common.{◌∷◌, ◌+◌, Some, refl, ap, sym, ◌∙◌, subst}
use Rattle.c_tree.specs.ExpressionTrees.{expression_tree}
use Rattle.c_tree.specs.Trees.{tree_of}
use Rattle.jump_meaning.specs.Tasks.{Heads}
use Rattle.step_tasks.specs.Tasks.{tasks_of, loop_of, head_of}
use Rattle.step_tasks.proofs.TopLemmas.{below}
use Rattle.step_ahead.specs.Ahead.{Reaches}
use Rattle.step_ahead.proofs.AheadLemmas.{stays, reaches_as, step_reaches}
use Rattle.step_ahead.proofs.loops.for_step.Goals as goal

pub returns-then-most-eq0-clause-ok : goal.returns-then-most-eq0-clause-ok
returns-then-most-eq0-clause-ok c f a t i x below q e = stays c.args.store.now (tasks_of c.args.tasks.now)

pub returns-in-None-clause-ok : goal.returns-in-None-clause-ok
returns-in-None-clause-ok c f a t i x below q e =
    subst (λ y. Reaches c.args.store.now y 0 (tasks_of c.args.tasks.now) (tasks_of c.args.tasks.now)) (sym c.in-None.ensures.done)
    (stays c.args.store.now (tasks_of c.args.tasks.now))

pub returns-in_ok-push-in-Some-clause-ok : goal.returns-in_ok-push-in-Some-clause-ok
returns-in_ok-push-in-Some-clause-ok c f a t i x below q e =
    let k = tasks_of below in
    let s = c.args.store.now in
    let step = expression_tree c.args.e.now in
    reaches_as s c.evaluated.new.store (c.in-Some.steps + 1) (tasks_of c.args.tasks.now) _ (Heads t (Some step) a ∷ k) (tasks_of c.push.new.self)
    (ap tasks_of q ∙ e ∙ ap (λ y. loop_of y ∷ k) i)
    (ap tasks_of c.in_ok-push-in-Some.ensures.ok ∙ ap (λ m. head_of (tree_of c.args.item.now) ∷ tasks_of m) (c.take_off.ensures x below q) ∙
    ap (λ y. head_of y ∷ k) i)
    (step_reaches s c.evaluated.new.store step t a c.in-Some.steps (c.in-Some.steps + 1) k c.in-Some.ensures.done.1 refl)

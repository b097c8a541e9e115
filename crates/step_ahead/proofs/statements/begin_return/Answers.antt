use Rattle.std.proofs.Common.{◌∷◌, ◌+◌, Some, true, refl, ap, ◌∙◌}
use Rattle.c_tree.specs.ExpressionTrees.{expression_tree}
use Rattle.c_tree.specs.Trees.{Return, trees_of}
use Rattle.jump_meaning.specs.Effects.{Computes, Ends}
use Rattle.jump_meaning.specs.Tasks.{Runs, Works, items}
use Rattle.step_tasks.specs.Tasks.{tasks_of}
use Rattle.step_ahead.proofs.AheadLemmas.{goes_on, stays}
use Rattle.step_ahead.proofs.PassLemmas.{passes_on, first_then}
use Rattle.step_ahead.proofs.statements.begin_return.Goals as goal

pub returns-then-most-lt2-clause-ok : goal.returns-then-most-lt2-clause-ok
returns-then-most-lt2-clause-ok c x below q e = goes_on c.args.store.now c.args.store.now 0 c.args.tasks.now c.args.tasks.now c.args.values.now
    (stays c.args.store.now (tasks_of c.args.tasks.now))

pub returns-clause-ok : goal.returns-clause-ok
returns-clause-ok c x below q e =
    let s = c.args.store.now in
    let k = items (trees_of c.args.rest.now) (tasks_of below) in
    let n = c.in_ok-steps.steps in
    let first = Runs (Return (Some (expression_tree c.args.e.now))) ∷ k in
    passes_on s s (n + 1) first c.args.tasks.now c.begin_in.new.tasks c.args.values.now c.begin_in.new.values (ap tasks_of q ∙ e)
    (first_then s s n (n + 1) first (Works (Computes (expression_tree c.args.e.now)) ∷ Works (Ends true) ∷ k) (tasks_of c.begin_in.new.tasks)
    c.args.values.now c.begin_in.new.values (λ P f g v cs w. refl) refl (c.in_ok-steps.ensures.ok x below q))

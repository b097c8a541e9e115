use Rattle.std.proofs.Common.{◌∷◌, ap, ◌∙◌}
use Rattle.std.specs.Int.{w128}
use Rattle.std.proofs.lemmas.Int.{to_z-of_z}
use Rattle.c_tree.specs.ExpressionTrees.{expression_tree}
use Rattle.jump_meaning.specs.Effects.{Computes}
use Rattle.jump_meaning.specs.Values.{Integer}
use Rattle.step_memory.specs.Stores.{names_of}
use Rattle.step_memory.specs.Values.{values_of}
use Rattle.step_tasks.specs.Tasks.{tasks_of}
use Rattle.step_ahead.proofs.PassLemmas.{leaves_pass, done_passes}
use Rattle.step_ahead.proofs.beginning.begin.Goals as goal

pub returns-in_ok-push-in-Some-clause-ok : goal.returns-in_ok-push-in-Some-clause-ok
returns-in_ok-push-in-Some-clause-ok c =
    let s = c.args.store.now in
    let x = c.in-Some.x in
    leaves_pass s (Computes (expression_tree c.args.e.now)) (Integer x.number) x.steps (tasks_of c.args.tasks.now) c.args.values.now c.push.new.self
    c.in-Some.ensures.ok
    (ap (values_of (names_of s)) c.in_ok-push-in-Some.ensures.ok ∙ ap (λ z. Integer z ∷ values_of (names_of s) c.args.values.now)
    (to_z-of_z w128 x.number c.in-Some.ensures.fits))

pub returns-in_ok-compute-in-None-clause-ok : goal.returns-in_ok-compute-in-None-clause-ok
returns-in_ok-compute-in-None-clause-ok c =
    done_passes c.args.store.now (Computes (expression_tree c.args.e.now)) c.args.tasks.now c.compute.new.tasks c.args.values.now c.compute.new.values
    c.in_ok-compute-in-None.ensures.ok

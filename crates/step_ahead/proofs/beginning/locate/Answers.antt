use Rattle.std.proofs.Common.{ap}
use Rattle.c_tree.specs.ExpressionTrees.{place_tree}
use Rattle.jump_meaning.specs.Effects.{Finds}
use Rattle.jump_meaning.specs.Values.{Designates}
use Rattle.step_memory.specs.Stores.{names_of}
use Rattle.step_memory.specs.Values.{owner_of, values_of}
use Rattle.step_tasks.specs.Tasks.{tasks_of}
use Rattle.step_ahead.proofs.PassLemmas.{leaves_pass, done_passes}
use Rattle.step_ahead.proofs.beginning.locate.Goals as goal

pub returns-in_ok-push-in-Some-clause-ok : goal.returns-in_ok-push-in-Some-clause-ok
returns-in_ok-push-in-Some-clause-ok c =
    let s = c.args.store.now in
    let x = c.in-Some.x in
    leaves_pass s (Finds (place_tree c.args.place.now)) (Designates (owner_of (names_of s) x.owner) x.at) x.steps (tasks_of c.args.tasks.now)
    c.args.values.now c.push.new.self c.in-Some.ensures.ok (ap (values_of (names_of s)) c.in_ok-push-in-Some.ensures.ok)

pub returns-in_ok-find-in-None-clause-ok : goal.returns-in_ok-find-in-None-clause-ok
returns-in_ok-find-in-None-clause-ok c =
    done_passes c.args.store.now (Finds (place_tree c.args.place.now)) c.args.tasks.now c.find.new.tasks c.args.values.now c.find.new.values
    c.in_ok-find-in-None.ensures.ok

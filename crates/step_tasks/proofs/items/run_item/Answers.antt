use Rattle.std.proofs.Common.{◌∷◌, false, ap, sym, ◌∙◌, subst}
use Rattle.std.proofs.lemmas.Result.{on_ok_weaker}
use Rattle.c_tree.specs.Trees.{tree_of}
use Rattle.c_tree.proofs.TreeLaws.{tree-Local, tree-Goto, tree-Arm, tree-Leap, tree-Land}
use Rattle.jump_meaning.specs.Step.{Goes, view}
use Rattle.jump_meaning.specs.Tasks.{Runs}
use Rattle.step_tasks.specs.Controls.{body_of, guards_of, Moves}
use Rattle.step_tasks.specs.Tasks.{tasks_of}
use Rattle.step_tasks.proofs.ControlLemmas.{jumps, guards}
use Rattle.step_tasks.proofs.items.run_item.Goals as goal

pub returns-in-Local-clause-ok : goal.returns-in-Local-clause-ok
returns-in-Local-clause-ok c = on_ok_weaker c.declare.result
    (λ p. subst (λ t. Moves (Runs t) c.args.store.now c.args.call.now c.declare.new.call)
    (sym (ap tree_of c.in-Local.is ∙ tree-Local c.in-Local.slot c.in-Local.initialisers)) p) c.declare.ensures.ok

pub returns-in-Goto-clause-ok : goal.returns-in-Goto-clause-ok
returns-in-Goto-clause-ok c = on_ok_weaker c.jump.result (λ p. jumps (Runs (tree_of c.args.item.now)) c.args.call.now c.jump.new.tasks
    (λ a. ap (λ y. view (body_of c.args.call.now.function.now) (guards_of c.args.call.now.guards) (Runs y ∷ (tasks_of c.args.call.now.tasks)))
    (ap tree_of c.in-Goto.is ∙ tree-Goto c.in-Goto.label) ∙ ap Goes (sym (p c.args.call.now.function.now a))) c.args.store.now) c.jump.ensures.ok

pub returns-in-Arm-clause-ok : goal.returns-in-Arm-clause-ok
returns-in-Arm-clause-ok c = on_ok_weaker c.arms.result (λ p. subst (λ t. Moves (Runs t) c.args.store.now c.args.call.now c.arms.new.call)
    (sym (ap tree_of c.in-Arm.is ∙ tree-Arm c.in-Arm.label c.in-Arm.value)) (p c.args.store.now)) c.arms.ensures.ok

pub returns-in-Leap-clause-ok : goal.returns-in-Leap-clause-ok
returns-in-Leap-clause-ok c = on_ok_weaker c.leap.result (λ p. subst (λ t. Moves (Runs t) c.args.store.now c.args.call.now c.leap.new.call)
    (sym (ap tree_of c.in-Leap.is ∙ tree-Leap c.in-Leap.label)) (p c.args.store.now)) c.leap.ensures.ok

pub returns-in-Land-clause-ok : goal.returns-in-Land-clause-ok
returns-in-Land-clause-ok c = guards (Runs (tree_of c.args.item.now)) c.args.call.now c.reset_guard.new.guards c.in-Land.label false
    (ap (λ y. view (body_of c.args.call.now.function.now) (guards_of c.args.call.now.guards) (Runs y ∷ (tasks_of c.args.call.now.tasks)))
    (ap tree_of c.in-Land.is ∙ tree-Land c.in-Land.label)) c.reset_guard.ensures c.args.store.now

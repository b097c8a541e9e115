use Rattle.std.proofs.Common.{[], ◌∷◌, ◌≡◌, Some, true, false, sym, ap, ◌∙◌, subst}
use Rattle.std.proofs.lemmas.Result.{IfOk-weaker}
use Rattle.jump_meaning.specs.Calls.{fallen, returned}
use Rattle.jump_meaning.specs.Code.{function_tree}
use Rattle.jump_meaning.specs.Effects.{Ends, top}
use Rattle.jump_meaning.specs.Step.{leave}
use Rattle.jump_meaning.specs.Tasks.{Works}
use Rattle.jump_meaning.specs.World.{World}
use Rattle.step_memory.specs.Stores.{names_of}
use Rattle.step_memory.specs.Values.{values_of}
use Rattle.step_tasks.specs.declared.work.Task.TheVariants.{End}
use Rattle.step_tasks.specs.Controls.{IsNext}
use Rattle.step_tasks.specs.Tasks.{task_of, tasks_of}
use Rattle.step_interp.specs.Machines.{HasWorld, frames_of}
use Rattle.step_interp.specs.Moves.{Reaches}
use Rattle.step_interp.specs.Steps.{Performs, Steps}
use Rattle.step_interp.proofs.TaskLemmas.{stepped, has_tasks}
use Rattle.step_interp.proofs.steps.step.Goals as goal

pub returns-in-None-clause-ok : goal.returns-in-None-clause-ok
returns-in-None-clause-ok c =
    let old = c.args.machine.now in
    let mid = record old { call = record old.call { tasks = c.next_task.new.tasks } } in
    let f = function_tree old.call.function.now in
    let name = old.call.function.now.name in
    let cs = frames_of (names_of old.store) old.waiting in
    let none : tasks_of old.call.tasks ≡ [] = subst (λ o. IsNext o old.call.tasks c.next_task.new.tasks) c.in-None.is c.in_ok-next_task.ensures in
    IfOk-weaker c.fall.result (λ next. (w : World) → HasWorld mid w → Reaches ⊥ (leave f (fallen name) cs w) w next c.fall.new.self)
    (λ next. Steps old next c.fall.new.self)
    (λ next k w h. stepped old [] w next c.fall.new.self none
    (subst (λ g. Reaches ⊥ (leave g (fallen name) cs w) w next c.fall.new.self) (sym h.called.0) (k w (has_tasks old c.next_task.new.tasks w h))))
    c.fall.ensures.ok

pub returns-in-Some-End-true-clause-ok : goal.returns-in-Some-End-true-clause-ok
returns-in-Some-End-true-clause-ok c =
    let old = c.args.machine.now in
    let mid = record old { call = record old.call { tasks = c.next_task.new.tasks } } in
    let f = function_tree old.call.function.now in
    let v = top (values_of (names_of old.store) old.call.values) in
    let cs = frames_of (names_of old.store) old.waiting in
    let one : tasks_of old.call.tasks ≡ Works (Ends true) ∷ tasks_of c.next_task.new.tasks =
    subst (λ o. IsNext o old.call.tasks c.next_task.new.tasks)
    (c.in-Some-End-true.is ∙ ap Some (c.in-Some-End-true.field-0-is ∙ ap End c.in-Some-End-true.field-0-0-test)) c.in_ok-next_task.ensures in
    IfOk-weaker c.end.result (λ next. (w : World) → HasWorld mid w → Reaches ⊥ (leave f (returned f v) cs w) w next c.end.new.self)
    (λ next. Steps old next c.end.new.self)
    (λ next k w h. stepped old (Works (Ends true) ∷ tasks_of c.next_task.new.tasks) w next c.end.new.self one
    (subst (λ g. Reaches ⊥ (leave g (returned g v) cs w) w next c.end.new.self) (sym h.called.0) (k w (has_tasks old c.next_task.new.tasks w h))))
    c.end.ensures.ok

pub returns-in-Some-End-false-clause-ok : goal.returns-in-Some-End-false-clause-ok
returns-in-Some-End-false-clause-ok c =
    let old = c.args.machine.now in
    let mid = record old { call = record old.call { tasks = c.next_task.new.tasks } } in
    let f = function_tree old.call.function.now in
    let name = old.call.function.now.name in
    let cs = frames_of (names_of old.store) old.waiting in
    let new = c.fall-in-Some-End-false.new.self in
    let one : tasks_of old.call.tasks ≡ Works (Ends false) ∷ tasks_of c.next_task.new.tasks =
    subst (λ o. IsNext o old.call.tasks c.next_task.new.tasks)
    (c.in-Some-End-false.is ∙ ap Some (c.in-Some-End-false.field-0-is ∙ ap End c.in-Some-End-false.field-0-0-test)) c.in_ok-next_task.ensures in
    IfOk-weaker c.fall-in-Some-End-false.result (λ next. (w : World) → HasWorld mid w → Reaches ⊥ (leave f (fallen name) cs w) w next new)
    (λ next. Steps old next new)
    (λ next k w h. stepped old (Works (Ends false) ∷ tasks_of c.next_task.new.tasks) w next new one
    (subst (λ g. Reaches ⊥ (leave g (fallen name) cs w) w next new) (sym h.called.0) (k w (has_tasks old c.next_task.new.tasks w h))))
    c.fall-in-Some-End-false.ensures.ok

pub returns-in-Some-clause-ok : goal.returns-in-Some-clause-ok
returns-in-Some-clause-ok c =
    let old = c.args.machine.now in
    let mid = record old { call = record old.call { tasks = c.next_task.new.tasks } } in
    let t = c.in-Some.task in
    let one : tasks_of old.call.tasks ≡ task_of t ∷ tasks_of c.next_task.new.tasks =
    subst (λ o. IsNext o old.call.tasks c.next_task.new.tasks) c.in-Some.is c.in_ok-next_task.ensures in
    IfOk-weaker c.perform.result (λ next. Performs t mid next c.perform.new.machine) (λ next. Steps old next c.perform.new.machine)
    (λ next k w h. stepped old (task_of t ∷ tasks_of c.next_task.new.tasks) w next c.perform.new.machine one (k w (has_tasks old c.next_task.new.tasks w h)))
    c.perform.ensures.ok

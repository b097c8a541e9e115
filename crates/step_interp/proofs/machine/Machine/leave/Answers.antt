use Rattle.std.proofs.Common.{◌∷◌, sym, subst}
use Rattle.std.proofs.lemmas.Result.{IfOk-weaker}
use Rattle.jump_meaning.specs.Code.{function_tree}
use Rattle.jump_meaning.specs.Step.{leave}
use Rattle.jump_meaning.specs.World.{World}
use Rattle.step_memory.specs.Stores.{names_of}
use Rattle.step_memory.specs.Values.{value_of}
use Rattle.step_interp.specs.Machines.{HasWorld, frames_of}
use Rattle.step_interp.specs.Moves.{Reaches, with_waiting}
use Rattle.step_interp.proofs.machine.Machine.leave.Goals as goal

pub returns-in-Some-clause-ok : goal.returns-in-Some-clause-ok
returns-in-Some-clause-ok c =
    let below = record c.args.self.now { waiting = c.pop.new.self } in
    let v = value_of (names_of c.args.self.now.store) c.args.value in
    IfOk-weaker c.return_to.result
    (λ next. (w : World) → HasWorld (with_waiting c.in-Some.caller below) w →
    Reaches ⊥ (leave (function_tree c.args.self.now.call.function.now) v
    (frames_of (names_of c.args.self.now.store) (c.in-Some.caller ∷ c.pop.new.self)) w) w next c.return_to.new.self)
    (λ next. (w : World) → HasWorld c.args.self.now w → Reaches ⊥
    (leave (function_tree c.args.self.now.call.function.now) v (frames_of (names_of c.args.self.now.store) c.args.self.now.waiting) w) w next
    c.return_to.new.self)
    (λ next k w h. subst (λ cs. Reaches ⊥ (leave (function_tree c.args.self.now.call.function.now) v (frames_of (names_of c.args.self.now.store) cs)
    w) w next c.return_to.new.self) (sym c.in-Some.ensures)
    (k w (subst (λ cs. HasWorld (record c.args.self.now { waiting = cs }) w) c.in-Some.ensures h)))
    c.return_to.ensures.ok

use Rattle.std.proofs.Common.{cond, pos, codes, ap, sym, ◌∙◌, subst}
use Rattle.std.specs.Str.{bytes_eq}
use Rattle.std.proofs.lemmas.Result.{IfOk-weaker}
use Rattle.jump_meaning.specs.Calls.{fallen}
use Rattle.jump_meaning.specs.Code.{function_tree}
use Rattle.jump_meaning.specs.Step.{leave}
use Rattle.jump_meaning.specs.Values as Meant
use Rattle.jump_meaning.specs.World.{World}
use Rattle.step_memory.specs.declared.value.Value.TheVariants as My
use Rattle.step_memory.specs.Stores.{names_of}
use Rattle.step_memory.specs.Values.{value_of}
use Rattle.step_interp.specs.Machines.{HasWorld, frames_of}
use Rattle.step_interp.specs.Moves.{Reaches}
use Rattle.step_interp.proofs.machine.Machine.fall.Goals as goal

pub returns-then-eq-clause-ok : goal.returns-then-eq-clause-ok
returns-then-eq-clause-ok c =
    let other = c.args.self.now in
    IfOk-weaker c.leave.result
    (λ next. (w : World) → HasWorld other w → Reaches ⊥ (leave (function_tree c.args.self.now.call.function.now)
    (value_of (names_of c.args.self.now.store) (My.Integer (pos 0))) (frames_of (names_of c.args.self.now.store) c.args.self.now.waiting) w) w
    next c.leave.new.self)
    (λ next. (w : World) → HasWorld c.args.self.now w → Reaches ⊥
    (leave (function_tree c.args.self.now.call.function.now) (fallen c.args.self.now.call.function.now.name)
    (frames_of (names_of c.args.self.now.store) c.args.self.now.waiting) w) w next c.leave.new.self)
    (λ next k w h. subst (λ v. Reaches ⊥ (leave (function_tree c.args.self.now.call.function.now) v
    (frames_of (names_of c.args.self.now.store) c.args.self.now.waiting) w) w next c.leave.new.self)
    (sym (ap (λ b. cond b (Meant.Integer (pos 0)) Meant.Missing) (ap (λ m. bytes_eq m (codes "main")) (sym c.as_str.ensures) ∙ sym c.if-eq.ensures)))
    (k w (record { holds = h.holds; cells = h.cells; answers = h.answers; linked = h.linked; called = h.called; waiting = h.waiting })))
    c.leave.ensures.ok

pub returns-else-eq-clause-ok : goal.returns-else-eq-clause-ok
returns-else-eq-clause-ok c =
    let other = c.args.self.now in
    IfOk-weaker c.leave-else-eq.result
    (λ next. (w : World) → HasWorld other w → Reaches ⊥ (leave (function_tree c.args.self.now.call.function.now)
    (value_of (names_of c.args.self.now.store) My.Missing) (frames_of (names_of c.args.self.now.store) c.args.self.now.waiting) w) w next
    c.leave-else-eq.new.self)
    (λ next. (w : World) → HasWorld c.args.self.now w → Reaches ⊥
    (leave (function_tree c.args.self.now.call.function.now) (fallen c.args.self.now.call.function.now.name)
    (frames_of (names_of c.args.self.now.store) c.args.self.now.waiting) w) w next c.leave-else-eq.new.self)
    (λ next k w h. subst (λ v. Reaches ⊥ (leave (function_tree c.args.self.now.call.function.now) v
    (frames_of (names_of c.args.self.now.store) c.args.self.now.waiting) w) w next c.leave-else-eq.new.self)
    (sym (ap (λ b. cond b (Meant.Integer (pos 0)) Meant.Missing) (ap (λ m. bytes_eq m (codes "main")) (sym c.as_str.ensures) ∙ sym c.if-eq.ensures)))
    (k w (record { holds = h.holds; cells = h.cells; answers = h.answers; linked = h.linked; called = h.called; waiting = h.waiting })))
    c.leave-else-eq.ensures.ok

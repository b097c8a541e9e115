use Rattle.std.proofs.Common.{to_z, of_z, ap, sym, ◌∙◌, subst}
use Rattle.std.specs.Int.{w128}
use Rattle.std.specs.Option.{option_map_or}
use Rattle.std.proofs.lemmas.Int.{to_z-of_z}
use Rattle.std.proofs.lemmas.Result.{IfOk-weaker}
use Rattle.c_types.specs.Numbers.{converted}
use Rattle.jump_meaning.specs.Calls.{returned}
use Rattle.jump_meaning.specs.Code.{function_tree}
use Rattle.jump_meaning.specs.Effects.{top}
use Rattle.jump_meaning.specs.Operations.{converted_value}
use Rattle.jump_meaning.specs.Step.{leave}
use Rattle.jump_meaning.specs.Values as Meant
use Rattle.jump_meaning.specs.World.{World}
use Rattle.step_memory.specs.declared.value.Value.TheVariants as My
use Rattle.step_memory.specs.Stores.{names_of}
use Rattle.step_memory.specs.Values.{value_of, values_of}
use Rattle.step_interp.specs.Machines.{HasWorld, frames_of}
use Rattle.step_interp.specs.Moves.{Reaches}
use Rattle.step_interp.proofs.machine.Machine.end.Goals as goal

pub returns-in-Some-clause-ok : goal.returns-in-Some-clause-ok
returns-in-Some-clause-ok c =
    let other = record c.args.self.now { call = record c.args.self.now.call { values = c.take-value.new.values } } in
    IfOk-weaker c.leave.result
    (λ next. (w : World) → HasWorld other w → Reaches ⊥ (leave (function_tree c.args.self.now.call.function.now)
    (value_of (names_of c.args.self.now.store) (My.Integer (to_z w128 (of_z w128 c.convert.result))))
    (frames_of (names_of c.args.self.now.store) c.args.self.now.waiting) w) w next c.leave.new.self)
    (λ next. (w : World) → HasWorld c.args.self.now w → Reaches ⊥
    (leave (function_tree c.args.self.now.call.function.now)
    (returned (function_tree c.args.self.now.call.function.now) (top (values_of (names_of c.args.self.now.store) c.args.self.now.call.values)))
    (frames_of (names_of c.args.self.now.store) c.args.self.now.waiting) w) w next c.leave.new.self)
    (λ next k w h. subst (λ v. Reaches ⊥ (leave (function_tree c.args.self.now.call.function.now) v
    (frames_of (names_of c.args.self.now.store) c.args.self.now.waiting) w) w next c.leave.new.self)
    (ap Meant.Integer (to_z-of_z w128 c.convert.result (record { sfits = c.convert.type_inv }) ∙ c.convert.ensures.value ∙
    ap (converted c.in-Some.kind) (to_z-of_z w128 c.integer.result (record { sfits = c.integer.type_inv }) ∙
    c.integer.ensures (names_of c.args.self.now.store) ∙ ap Meant.integer (c.take-value.ensures.value (names_of c.args.self.now.store)))) ∙
    sym (ap (λ o. option_map_or (λ k. converted_value k (top (values_of (names_of c.args.self.now.store) c.args.self.now.call.values))) o
    Meant.Missing) c.in-Some.is))
    (k w (record { holds = h.holds; cells = h.cells; answers = h.answers; linked = h.linked; called = h.called; waiting = h.waiting })))
    c.leave.ensures.ok

pub returns-in-None-clause-ok : goal.returns-in-None-clause-ok
returns-in-None-clause-ok c =
    let other = record c.args.self.now { call = record c.args.self.now.call { values = c.take-value.new.values } } in
    IfOk-weaker c.leave-in-None.result
    (λ next. (w : World) → HasWorld other w → Reaches ⊥ (leave (function_tree c.args.self.now.call.function.now)
    (value_of (names_of c.args.self.now.store) My.Missing) (frames_of (names_of c.args.self.now.store) c.args.self.now.waiting) w) w next
    c.leave-in-None.new.self)
    (λ next. (w : World) → HasWorld c.args.self.now w → Reaches ⊥
    (leave (function_tree c.args.self.now.call.function.now)
    (returned (function_tree c.args.self.now.call.function.now) (top (values_of (names_of c.args.self.now.store) c.args.self.now.call.values)))
    (frames_of (names_of c.args.self.now.store) c.args.self.now.waiting) w) w next c.leave-in-None.new.self)
    (λ next k w h. subst (λ v. Reaches ⊥ (leave (function_tree c.args.self.now.call.function.now) v
    (frames_of (names_of c.args.self.now.store) c.args.self.now.waiting) w) w next c.leave-in-None.new.self)
    (sym (ap (λ o. option_map_or (λ k. converted_value k (top (values_of (names_of c.args.self.now.store) c.args.self.now.call.values))) o
    Meant.Missing) c.in-None.is))
    (k w (record { holds = h.holds; cells = h.cells; answers = h.answers; linked = h.linked; called = h.called; waiting = h.waiting })))
    c.leave-in-None.ensures.ok

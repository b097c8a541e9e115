use Rattle.std.proofs.Common.{ℕ, List, ◌≡◌, ◌++◌, map, drop, ap, sym, ◌∙◌, subst}
use Rattle.std.proofs.lemmas.List.{take_rest}
use Rattle.std.proofs.lemmas.Result.{IfOk-weaker}
use Rattle.jump_meaning.specs.Code.{function_tree}
use Rattle.jump_meaning.specs.World.{slot_at_start}
use Rattle.step_memory.specs.Pages.{room_at_start}
use Rattle.step_memory.specs.Rooms.{AreSlots}
use Rattle.step_memory.specs.Values.{values_of}
use Rattle.step_interp.proofs.SlotLemmas.{rest_slots}
use Rattle.step_interp.proofs.slots.rooms_at_start.Goals as goal

pub returns-clause-slots : goal.returns-clause-slots
returns-clause-slots c =
    let f = function_tree c.args.function.now in
    let rooms = c.in_ok-rooms.rooms in
    let count = c.parameter_count-count.result in
    IfOk-weaker c.new.result (λ it. it ≡ rooms ++ map room_at_start _)
    (λ it. (ns : List (List ℕ)) → AreSlots ns it (slot_at_start f (values_of ns c.args.arguments.now)))
    (λ it e ns. subst (λ xs. AreSlots ns xs (slot_at_start f (values_of ns c.args.arguments.now)))
    (sym (e ∙ ap (λ ss. rooms ++ map room_at_start ss) (take_rest c.as_slice-slots.result.now count ∙ ap (drop count) c.as_slice-slots.ensures.value)))
    (rest_slots ns f (values_of ns c.args.arguments.now) rooms count c.in_ok-rooms.ensures.count c.parameter_count-count.ensures.all
    (c.in_ok-rooms.ensures.slots ns)))
    c.new.ensures

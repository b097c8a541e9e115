use Rattle.std.proofs.Common.{◌≡◌, ◌+◌, ◌<◌, ◌≤◌, ◌∷◌, [], get_or, length, ap, sym, ◌∙◌, subst, arith}
use Rattle.std.proofs.lemmas.List.{length-append, length-take, length-take-le, get_or-take}
use Rattle.jump_meaning.specs.Code.{function_tree}
use Rattle.jump_meaning.specs.World.{parameter, slot_at_start}
use Rattle.step_memory.specs.Rooms.{IsRoom, AreSlots}
use Rattle.step_memory.specs.Values.{values_of}
use Rattle.step_interp.proofs.SlotLemmas.{one_slot_more, next_slot, next_arguments}
use Rattle.step_interp.proofs.slots.parameter_rooms.Goals as goal

pub loop-slot-preserved : goal.loop-slot-preserved
loop-slot-preserved c =
    let f = function_tree c.args.function.now in
    let ss = c.as_slice-slots.result.now in
    let i = c.loop-slot.slot-index in
    let s = c.slot-item.result in
    let room = c.in_ok-parameter.field-0 in
    let within : i < c.args.count = omega (arith, c.loop-slot-test.true, length-take c.args.count ss) in
    let there : i < length c.args.function.now.slots = omega (arith, within, c.requires.slots) in
    let is_parameter : i < c.args.function.now.params = omega (arith, within, c.requires.parameters) in
    let item : s ≡ get_or c.args.function.now.slots i s = c.slot-item.is ∙ get_or-take c.args.count ss i s within ∙ ap (λ xs. get_or xs i s)
    c.as_slice-slots.ensures.value in
    record {
      count = ap length c.in_ok-push.ensures.ok ∙ length-append c.loop-slot.rooms (room ∷ []) ∙ ap (λ n. n + 1) c.loop-slot.invariant.count;
      slots = λ ns.
          let vs = values_of ns c.args.arguments.now in
          subst (λ rooms. AreSlots ns rooms (slot_at_start f vs)) (sym c.in_ok-push.ensures.ok)
          (one_slot_more ns c.loop-slot.rooms room (slot_at_start f vs) (c.loop-slot.invariant.slots ns)
          (subst (λ n. IsRoom ns room (slot_at_start f vs n)) (sym c.loop-slot.invariant.count)
          (subst (IsRoom ns room) (ap (parameter s) (c.take.ensures.value ns) ∙
          next_slot f vs (values_of ns c.loop-slot.arguments) i s is_parameter there item (c.loop-slot.invariant.arguments ns))
          (c.in_ok-parameter.ensures ns))));
      arguments = λ ns. c.take.ensures.left ns ∙ next_arguments (values_of ns c.args.arguments.now) (values_of ns c.loop-slot.arguments) i
          (c.loop-slot.invariant.arguments ns);
    }

pub returns-clause-count : goal.returns-clause-count
returns-clause-count c =
    let ss = c.as_slice-slots.result.now in
    let all : c.args.count ≤ length ss = omega (arith, c.requires.slots, ap length c.as_slice-slots.ensures.value) in
    omega (arith, c.loop-slot.invariant.count, c.loop-slot-test.false, c.loop-slot.auto.slot-index-end, length-take-le c.args.count ss all)

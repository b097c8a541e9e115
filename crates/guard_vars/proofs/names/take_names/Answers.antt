use Rattle.std.proofs.Common.{ℕ, List, [], ap, ◌∙◌}
use Rattle.std.proofs.lemmas.Result.{on_ok_weaker}
use Rattle.c_tree.specs.declared.tree.Slot.{Slot}
use Rattle.c_copies.specs.Names.{with_names, slots_names}
use Rattle.c_copies.proofs.NameLemmas.{then_names}
use Rattle.guard_vars.proofs.names.take_names.Goals as goal

pub returns-clause-own : goal.returns-clause-own
returns-clause-own c =
    let f = c.args.function.now in
    let slots =
    c.in_ok-add_slots.ensures ∙ ap (λ (k : List (List ℕ)). with_names k (slots_names c.as_slice.result.now)) c.forget_own.ensures.own
    ∙ ap (λ (ss : List Slot). with_names [] (slots_names ss)) c.as_slice.ensures.value in
    on_ok_weaker c.add_names.result
    (λ h. then_names [] c.add_slots.new.set c.add_names.new.set (slots_names f.slots) f.labels slots
    (h ∙ ap (with_names c.add_slots.new.set) c.as_slice-2.ensures.value))
    c.add_names.ensures

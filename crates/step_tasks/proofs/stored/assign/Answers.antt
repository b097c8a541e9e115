use Rattle.std.proofs.Common.{◌∷◌, ap, sym, ◌∙◌, subst}
use Rattle.std.specs.Int.{w128}
use Rattle.std.proofs.lemmas.Int.{to_z-of_z}
use Rattle.std.proofs.lemmas.Result.{on_ok_weaker}
use Rattle.c_types.specs.Numbers.{converted}
use Rattle.jump_meaning.specs.Values as Meant
use Rattle.step_memory.specs.Stores.{names_of, StoresIn}
use Rattle.step_memory.specs.Values.{value_of, values_of}
use Rattle.jump_meaning.specs.Effects.{top, rest}
use Rattle.step_tasks.proofs.StoredLemmas.{assigned}
use Rattle.step_tasks.proofs.stored.assign.Goals as goal

pub returns-clause-ok : goal.returns-clause-ok
returns-clause-ok c =
    let ns = names_of c.args.store.now in
    let place = ap (value_of ns) (sym c.in-Designates.is) ∙ c.take.ensures.value ns ∙ ap top (c.take_number-number.ensures.left ns) in
    let fits = to_z-of_z w128 c.take_number-number.result (record { sfits = c.take_number-number.type_inv }) in
    on_ok_weaker c.leave_number.result
    (λ p.
    assigned c.args.store.now c.set.new.self c.args.values.now c.leave_number.new.values c.in-Designates.owner c.in-Designates.at
    c.take_number-number.result c.in_ok-kind.kind
    (c.take_number-number.ensures.value ns) place c.in_ok-kind.ensures.ok
    (subst (λ z. StoresIn c.in-Designates.owner c.in-Designates.at z c.args.store.now c.set.new.self) fits c.in_ok-set.ensures.ok)
    (p ns
    ∙ ap (λ z. Meant.Integer z ∷ values_of ns c.take.new.values)
    (to_z-of_z w128 c.convert.result (record { sfits = c.convert.type_inv }) ∙ c.convert.ensures.value ∙ ap (converted c.in_ok-kind.kind) fits)
    ∙ ap (λ r. Meant.Integer (converted c.in_ok-kind.kind c.take_number-number.result) ∷ r)
    (c.take.ensures.left ns ∙ ap rest (c.take_number-number.ensures.left ns))))
    c.leave_number.ensures.ok

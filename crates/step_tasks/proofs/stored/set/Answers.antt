use Rattle.std.proofs.Common.{ℕ, suc, ◌+◌, ◌≡◌, ap, sym, ◌∙◌, subst, arith}
use Rattle.std.specs.Int.{w128}
use Rattle.std.proofs.lemmas.Int.{to_z-of_z}
use Rattle.std.proofs.lemmas.Result.{on_ok_weaker}
use Rattle.c_tree.specs.Trees.{expression_trees}
use Rattle.jump_meaning.specs.Effects.{initialise, top, rest}
use Rattle.step_memory.specs.Stores.{names_of, StoresIn}
use Rattle.step_memory.specs.Values.{value_of}
use Rattle.step_tasks.specs.Effects.{Effects}
use Rattle.step_tasks.proofs.StoredLemmas.{set_cell}
use Rattle.step_tasks.proofs.stored.set.Goals as goal

one_more : (n : ℕ) → n + 1 ≡ suc n
one_more n = omega arith

pub returns-clause-ok : goal.returns-clause-ok
returns-clause-ok c =
    let ns = names_of c.args.store.now in
    let place = ap (value_of ns) (sym c.in-Designates.is) ∙ c.take.ensures.value ns ∙ ap top (c.take_number-number.ensures.left ns) in
    let fits = to_z-of_z w128 c.take_number-number.result (record { sfits = c.take_number-number.type_inv }) in
    on_ok_weaker c.initialise.result
    (λ p.
    set_cell c.args.store.now c.set.new.self c.args.slot c.args.at (expression_trees c.args.later.now) c.args.tasks.now c.initialise.new.tasks
    c.args.values.now c.take.new.values c.initialise.new.values
    c.in-Designates.owner c.in-Designates.cell c.take_number-number.result
    c.in_ok-set.ensures.names (c.take_number-number.ensures.value ns) place
    (subst (λ z. StoresIn c.in-Designates.owner c.in-Designates.cell z c.args.store.now c.set.new.self) fits c.in_ok-set.ensures.ok)
    (c.take.ensures.left ns ∙ ap rest (c.take_number-number.ensures.left ns))
    (subst (λ i. Effects (initialise c.args.slot i (expression_trees c.args.later.now)) c.set.new.self c.args.tasks.now c.initialise.new.tasks
    c.take.new.values c.initialise.new.values) (one_more c.args.at) p))
    c.initialise.ensures.ok

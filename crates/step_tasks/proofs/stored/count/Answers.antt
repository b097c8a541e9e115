use Rattle.std.proofs.Common.{ap, sym, ◌∙◌}
use Rattle.std.proofs.lemmas.Result.{IfOk-weaker}
use Rattle.jump_meaning.specs.Effects.{Counts}
use Rattle.step_memory.specs.Stores.{names_of}
use Rattle.step_memory.specs.Values.{owner_of, value_of, values_of}
use Rattle.step_tasks.specs.Effects.{CountsIn, LeavesInOr}
use Rattle.step_tasks.proofs.StoredLemmas.{with_place}
use Rattle.step_tasks.proofs.stored.count.Goals as goal

pub returns-clause-ok : goal.returns-clause-ok
returns-clause-ok c =
    let ns = names_of c.args.store.now in
    IfOk-weaker c.count_cell.result
    (λ d. CountsIn c.args.up c.args.after c.in-Designates.owner c.in-Designates.at d c.args.store.now c.count_cell.new.store c.take.new.values
    c.count_cell.new.values)
    (λ d. LeavesInOr (Counts c.args.up c.args.after) d c.args.store.now c.count_cell.new.store c.args.values.now c.count_cell.new.values)
    (λ d k. k c.args.values.now
    (with_place (values_of ns c.args.values.now) (values_of ns c.take.new.values) (owner_of ns c.in-Designates.owner) c.in-Designates.at
    (ap (value_of ns) (sym c.in-Designates.is) ∙ c.take.ensures.value ns) (c.take.ensures.left ns)))
    c.count_cell.ensures.ok

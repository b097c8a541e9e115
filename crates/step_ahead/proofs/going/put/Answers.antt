use Rattle.std.proofs.Common.{◌∷◌, ap, sym, ◌∙◌}
use Rattle.jump_meaning.specs.Effects.{Stores}
use Rattle.jump_meaning.specs.Tasks.{Works}
use Rattle.step_tasks.specs.Tasks.{tasks_of}
use Rattle.step_ahead.proofs.PassLemmas.{passes_on, changes_pass}
use Rattle.step_ahead.proofs.going.put.Goals as goal

pub returns-clause-ok : goal.returns-clause-ok
returns-clause-ok c x below q e =
    let s = c.args.store.now in
    let left = c.take_off.new.tasks in
    passes_on s c.assign.new.store 1 (Works Stores ∷ tasks_of left) c.args.tasks.now left c.args.values.now c.assign.new.values
    (ap tasks_of q ∙ e ∙ ap (λ ts. Works Stores ∷ tasks_of ts) (sym (c.take_off.ensures x below q)))
    (changes_pass s c.assign.new.store Stores left left c.args.values.now c.assign.new.values (c.in_ok-assign.ensures.ok left))

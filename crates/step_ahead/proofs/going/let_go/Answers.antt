use Rattle.std.proofs.Common.{◌∷◌, ap, sym, ◌∙◌}
use Rattle.jump_meaning.specs.Effects.{Drops}
use Rattle.jump_meaning.specs.Tasks.{Works}
use Rattle.step_memory.specs.Stores.{names_of}
use Rattle.step_tasks.specs.Tasks.{tasks_of}
use Rattle.step_ahead.proofs.PassLemmas.{passes_on, drop_passes}
use Rattle.step_ahead.proofs.going.let_go.Goals as goal

pub returns : goal.returns
returns c x below q e =
    let s = c.args.store.now in
    let left = c.take_off.new.tasks in
    passes_on s s 1 (Works Drops ∷ tasks_of left) c.args.tasks.now left c.args.values.now c.take.new.values
    (ap tasks_of q ∙ e ∙ ap (λ ts. Works Drops ∷ tasks_of ts) (sym (c.take_off.ensures x below q)))
    (drop_passes s (tasks_of left) c.args.values.now c.take.new.values (c.take.ensures.left (names_of s)))

use Rattle.std.proofs.Common.{◌∷◌, ap, sym, ◌∙◌}
use Rattle.std.proofs.lemmas.Result.{IfOk-weaker}
use Rattle.c_tree.specs.ExpressionTrees.{place_tree}
use Rattle.jump_meaning.specs.Effects.{Finds}
use Rattle.jump_meaning.specs.Tasks.{Works}
use Rattle.step_tasks.specs.Tasks.{tasks_of}
use Rattle.step_ahead.proofs.PassLemmas.{passes_on}
use Rattle.step_ahead.proofs.going.reach.Goals as goal

pub returns-clause-ok : goal.returns-clause-ok
returns-clause-ok c =
    let s = c.args.store.now in
    let first = Works (Finds (place_tree c.args.place.now)) in
    IfOk-weaker c.locate.result _ _
    (λ n p x below q e. passes_on s s n (first ∷ tasks_of c.take_off.new.tasks) c.args.tasks.now c.locate.new.tasks c.args.values.now c.locate.new.values
    (ap tasks_of q ∙ e ∙ ap (λ ts. first ∷ tasks_of ts) (sym (c.take_off.ensures x below q))) p)
    c.locate.ensures.ok

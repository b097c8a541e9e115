use Rattle.std.proofs.Common.{◌∷◌, ap, sym, ◌∙◌}
use Rattle.std.proofs.lemmas.Result.{IfOk-weaker}
use Rattle.c_tree.specs.ExpressionTrees.{expression_tree}
use Rattle.jump_meaning.specs.Effects.{Computes}
use Rattle.jump_meaning.specs.Tasks.{Works}
use Rattle.step_tasks.specs.Tasks.{computes, tasks_of}
use Rattle.step_ahead.proofs.PassLemmas.{passes_on}
use Rattle.step_ahead.proofs.going.argument.Goals as goal

pub returns-clause-ok : goal.returns-clause-ok
returns-clause-ok c =
    let s = c.args.store.now in
    let first = Works (Computes (expression_tree c.args.e.now)) in
    IfOk-weaker c.begin.result _ _
    (λ n p x below q e. passes_on s s n (first ∷ tasks_of c.add_arguments.new.tasks) c.args.tasks.now c.begin.new.tasks c.args.values.now c.begin.new.values
    (ap tasks_of q ∙ e ∙ ap (λ ts. first ∷ computes c.args.rest.now (tasks_of ts)) (sym (c.take_off.ensures x below q))
    ∙ ap (λ ks. first ∷ ks) (sym c.in_ok-add_arguments.ensures.ok)) p)
    c.begin.ensures.ok

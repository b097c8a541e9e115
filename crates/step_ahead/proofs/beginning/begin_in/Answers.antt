use Rattle.std.proofs.Common.{◌∷◌, ap, sym, ◌∙◌}
use Rattle.std.proofs.lemmas.Result.{IfOk-weaker}
use Rattle.c_tree.specs.ExpressionTrees.{expression_tree}
use Rattle.jump_meaning.specs.Effects.{Computes}
use Rattle.jump_meaning.specs.Tasks.{Works}
use Rattle.step_tasks.specs.Tasks.{task_of, tasks_of}
use Rattle.step_ahead.proofs.PassLemmas.{passes_from}
use Rattle.step_ahead.proofs.beginning.begin_in.Goals as goal

pub returns-clause-ok : goal.returns-clause-ok
returns-clause-ok c =
    let s = c.args.store.now in
    let first = Works (Computes (expression_tree c.args.e.now)) in
    IfOk-weaker c.begin.result _ _
    (λ n p x below q. passes_from s s n _ (first ∷ tasks_of c.push.new.self) (tasks_of c.begin.new.tasks) c.args.values.now c.begin.new.values
    (ap (λ ks. first ∷ ks) (sym (ap tasks_of c.in_ok-push.ensures.ok ∙ ap (λ ks. task_of c.args.taker ∷ ks) (c.in_ok-go_on.ensures.ok x below q)))) p)
    c.begin.ensures.ok

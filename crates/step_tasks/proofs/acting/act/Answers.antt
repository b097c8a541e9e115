use Rattle.std.proofs.Common.{◌≡◌, refl, sym, ap, ◌∙◌, subst}
use Rattle.std.proofs.lemmas.Result.{IfOk-weaker}
use Rattle.c_tree.specs.Trees.{expression_trees}
use Rattle.jump_meaning.specs.Effects.{Op, Stores, Counts, Sets, Clears}
use Rattle.jump_meaning.specs.Tasks.{Works}
use Rattle.step_tasks.specs.Effects.{IsDoneOr, Changes, ChangesOr, LeavesInOr}
use Rattle.step_tasks.specs.Tasks.{task_of}
use Rattle.step_tasks.proofs.ActLemmas.{same_op, leaves_or, no_change, cleared}
use Rattle.step_tasks.proofs.acting.act.Goals as goal

pub returns-in_ok-assign-in-Store-clause-ok : goal.returns-in_ok-assign-in-Store-clause-ok
returns-in_ok-assign-in-Store-clause-ok c o h =
    subst (λ q. Changes q c.args.store.now c.assign.new.store c.args.tasks.now c.args.tasks.now c.args.values.now c.assign.new.values)
    (same_op o Stores (sym (ap task_of c.in-Store.is) ∙ h)) (c.in_ok-assign-in-Store.ensures.ok c.args.tasks.now)

pub returns-in-Count-clause-ok : goal.returns-in-Count-clause-ok
returns-in-Count-clause-ok c =
    IfOk-weaker c.count.result (λ d. LeavesInOr (Counts c.in-Count.up c.in-Count.after) d c.args.store.now c.count.new.store c.args.values.now
    c.count.new.values)
    (λ d. (o : Op) → task_of c.args.task ≡ Works o → ChangesOr o d c.args.store.now c.count.new.store c.args.tasks.now c.args.tasks.now
    c.args.values.now c.count.new.values)
    (λ d k o h. subst (λ q. ChangesOr q d c.args.store.now c.count.new.store c.args.tasks.now c.args.tasks.now c.args.values.now c.count.new.values)
    (same_op o (Counts c.in-Count.up c.in-Count.after) (sym (ap task_of c.in-Count.is) ∙ h))
    (leaves_or (Counts c.in-Count.up c.in-Count.after) d c.args.store.now c.count.new.store c.args.values.now c.count.new.values k c.args.tasks.now))
    c.count.ensures.ok

pub returns-in_ok-set-in-Set-clause-ok : goal.returns-in_ok-set-in-Set-clause-ok
returns-in_ok-set-in-Set-clause-ok c o h =
    subst (λ q. Changes q c.args.store.now c.set.new.store c.args.tasks.now c.set.new.tasks c.args.values.now c.set.new.values)
    (same_op o (Sets c.in-Set.x c.in-Set.at (expression_trees c.in-Set.later.now)) (sym (ap task_of c.in-Set.is) ∙ h)) c.in_ok-set-in-Set.ensures.ok

pub returns-in_ok-clear-in-Clear-clause-ok : goal.returns-in_ok-clear-in-Clear-clause-ok
returns-in_ok-clear-in-Clear-clause-ok c o h =
    subst (λ q. Changes q c.args.store.now c.clear.new.self c.args.tasks.now c.args.tasks.now c.args.values.now c.args.values.now)
    (same_op o (Clears c.in-Clear.x c.in-Clear.from) (sym (ap task_of c.in-Clear.is) ∙ h))
    (cleared c.in-Clear.x c.in-Clear.from c.args.store.now c.clear.new.self c.args.tasks.now c.args.values.now c.in_ok-clear-in-Clear.ensures.ok)

pub returns-in_default : goal.returns-in_default
returns-in_default c = record {
  names = refl;
  ok = IfOk-weaker c.act_reading.result (λ d. (o : Op) → task_of c.args.task ≡ Works o →
      IsDoneOr o d c.args.store.now c.args.tasks.now c.act_reading.new.tasks c.args.values.now c.act_reading.new.values)
      (λ d. (o : Op) → task_of c.args.task ≡ Works o → ChangesOr o d c.args.store.now c.args.store.now c.args.tasks.now c.act_reading.new.tasks
      c.args.values.now c.act_reading.new.values)
      (λ d k o h. no_change o d c.args.store.now c.args.tasks.now c.act_reading.new.tasks c.args.values.now c.act_reading.new.values (k o h))
      c.act_reading.ensures.ok;
}

use Rattle.std.proofs.Common.{◌≡◌, ◌≢◌, ◌-◌, Some, slice_get, sym, ap, ◌∙◌, subst, arith}
use Rattle.std.specs.Option.{option_copied}
use Rattle.std.proofs.lemmas.Result.{on_ok_weaker}
use Rattle.step_tasks.specs.Labels.{IsStack}
use Rattle.step_tasks.specs.Tasks.{work_of, tasks_of}
use Rattle.step_tasks.proofs.LabelLemmas.{at_end, stack_top}
use Rattle.step_tasks.proofs.table.+restore.Goals as goal

pub returns-then-level-eq0 : goal.returns-then-level-eq0
returns-then-level-eq0 t c k s e =
    ap tasks_of e ∙ sym (at_end c.args.labels.now.levels k (subst (λ i. IsStack c.args.labels.now.levels i k) c.if-level-eq0.true s))

pub returns-in_ok-restore-in-Some : goal.returns-in_ok-restore-in-Some
returns-in_ok-restore-in-Some t c =
    let levels = c.args.labels.now.levels in
    let top = c.in-Some.top.now in
    let some : c.args.level ≢ 0 = λ e. absurd (omega (arith, c.if-level-eq0.false, e)) in
    let there : slice_get levels (c.args.level - 1) ≡ Some top = sym c.get.ensures.value ∙ ap option_copied c.in-Some.is in
    on_ok_weaker c.push.result
    (λ p k s e. let x = stack_top levels c.args.level k top some s there in
    ap tasks_of p ∙ ap (work_of top.work) (c.in_ok-restore-in-Some.ensures x.0 x.1 e) ∙ sym x.2)
    c.push.ensures.ok

use Rattle.std.proofs.Common.{◌≡◌, ◌∷◌, Some, cond, slice_get, ap, sym, ◌∙◌}
use Rattle.std.specs.Option.{option_copied}
use Rattle.jump_meaning.specs.Tasks.{cut_to}
use Rattle.step_tasks.specs.Tasks.{work_of, tasks_of}
use Rattle.step_tasks.proofs.CutLemmas.{to_work}
use Rattle.step_tasks.proofs.TopLemmas.{below, on_top, popped, no_top}
use Rattle.step_tasks.proofs.jumps.cut_to.Goals as goal

pub loop-work-preserved : goal.loop-work-preserved
loop-work-preserved c =
    let there : Some c.in-Some.work.now ≡ slice_get c.loop-work.tasks 0 = sym (ap option_copied c.in-Some.is) ∙ c.top.ensures in
    let k = tasks_of c.pop.new.self in
    ap (λ b. cond b (work_of c.in-Some.work.now k) (cut_to k)) (sym c.if-ends_continue.false ∙ c.ends_continue.ensures)
    ∙ sym (to_work c.in-Some.work.now k) ∙ sym
    (ap (λ ws. cut_to (tasks_of ws)) (popped c.pop.result c.in-Some.work.now c.loop-work.tasks c.pop.new.self c.pop.ensures there)) ∙ c.loop-work.invariant

pub returns-then-ends_continue : goal.returns-then-ends_continue
returns-then-ends_continue c =
    let there : Some c.in-Some.work.now ≡ slice_get c.loop-work.tasks 0 = sym (ap option_copied c.in-Some.is) ∙ c.top.ensures in
    let k = tasks_of (below c.loop-work.tasks) in
    let is : c.loop-work.tasks ≡ c.in-Some.work.now ∷ below c.loop-work.tasks = on_top c.in-Some.work.now c.loop-work.tasks there in
    ap tasks_of is ∙ ap (λ b. cond b (work_of c.in-Some.work.now k) (cut_to k)) (sym c.if-ends_continue.true ∙ c.ends_continue.ensures)
    ∙ sym (to_work c.in-Some.work.now k) ∙ sym (ap (λ ws. cut_to (tasks_of ws)) is) ∙ c.loop-work.invariant

pub returns : goal.returns
returns c =
    let none = no_top c.top.result c.loop-work.tasks c.top.ensures c.in_default.not-Some in
    ap tasks_of none ∙ sym (ap (λ ws. cut_to (tasks_of ws)) none) ∙ c.loop-work.invariant

use Rattle.std.proofs.Common.{◌≡◌, Some, false, true, cond, slice_get, ap, sym, ◌∙◌, arith}
use Rattle.std.specs.Option.{option_copied}
use Rattle.jump_meaning.specs.Step.{is_dropped}
use Rattle.step_tasks.specs.Controls.{drops, is_nothing}
use Rattle.step_tasks.specs.Tasks.{tasks_of}
use Rattle.step_tasks.proofs.DropLemmas.{drops_work, nothing_work}
use Rattle.step_tasks.proofs.TopLemmas.{below, on_top, popped, no_top}
use Rattle.step_tasks.proofs.upcoming.drops_next.Goals as goal

pub returns-then-not-is_nothing-clause-drops : goal.returns-then-not-is_nothing-clause-drops
returns-then-not-is_nothing-clause-drops c =
    let there : Some c.in-Some.work.now ≡ slice_get c.loop-work.tasks 0 = sym (ap option_copied c.in-Some.is) ∙ c.top.ensures in
    let k = tasks_of (below c.loop-work.tasks) in
    let nothing : is_nothing c.in-Some.work.now ≡ false = grind (arith, c.if-not-is_nothing.true, c.is_nothing.ensures) in
    c.drops.ensures ∙ sym (ap (λ b. cond b (is_dropped k) (drops c.in-Some.work.now)) nothing) ∙ sym (drops_work c.in-Some.work.now k)
    ∙ sym (ap (λ ws. is_dropped (tasks_of ws)) (on_top c.in-Some.work.now c.loop-work.tasks there)) ∙ ap is_dropped c.loop-work.invariant

pub loop-work-preserved : goal.loop-work-preserved
loop-work-preserved c =
    let there : Some c.in-Some.work.now ≡ slice_get c.loop-work.tasks 0 = sym (ap option_copied c.in-Some.is) ∙ c.top.ensures in
    let nothing : is_nothing c.in-Some.work.now ≡ true = grind (arith, c.if-not-is_nothing.false, c.is_nothing.ensures) in
    sym (nothing_work c.in-Some.work.now (tasks_of c.pop.new.self) nothing)
    ∙ sym (ap tasks_of (popped c.pop.result c.in-Some.work.now c.loop-work.tasks c.pop.new.self c.pop.ensures there)) ∙ c.loop-work.invariant

pub returns-clause-drops : goal.returns-clause-drops
returns-clause-drops c =
    sym (ap (λ ws. is_dropped (tasks_of ws)) (no_top c.top.result c.loop-work.tasks c.top.ensures c.in_default.not-Some)) ∙ ap is_dropped c.loop-work.invariant

use Rattle.std.proofs.Common.{cond, ap, sym, ◌∙◌}
use Rattle.jump_meaning.specs.Tasks.{cut as the_cut}
use Rattle.step_tasks.specs.Tasks.{tasks_of}
use Rattle.step_tasks.proofs.CutLemmas.{cut_work}
use Rattle.step_tasks.proofs.jumps.cut.Goals as goal

pub loop-work-preserved : goal.loop-work-preserved
loop-work-preserved c =
    ap (λ b. cond b (tasks_of c.pop.new.self) (the_cut (tasks_of c.pop.new.self))) (sym c.if-ends_break.false ∙ c.ends_break.ensures)
    ∙ sym (cut_work c.in-Some.work (tasks_of c.pop.new.self)) ∙ sym (ap (λ ws. the_cut (tasks_of ws)) c.in-Some.ensures) ∙ c.loop-work.invariant

pub returns-then-ends_break : goal.returns-then-ends_break
returns-then-ends_break c =
    ap (λ b. cond b (tasks_of c.pop.new.self) (the_cut (tasks_of c.pop.new.self))) (sym c.if-ends_break.true ∙ c.ends_break.ensures)
    ∙ sym (cut_work c.in-Some.work (tasks_of c.pop.new.self)) ∙ sym (ap (λ ws. the_cut (tasks_of ws)) c.in-Some.ensures) ∙ c.loop-work.invariant

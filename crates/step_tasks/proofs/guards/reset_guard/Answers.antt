use Rattle.std.proofs.Common.{get_or, ◌++◌, take, drop, ap, sym, ◌∙◌, arith}
use Rattle.step_tasks.specs.Controls.{guards_of}
use Rattle.step_tasks.proofs.GuardLemmas.{without, removed, passed_all, reset}
use Rattle.step_tasks.proofs.guards.reset_guard.Goals as goal

pub loop-at-preserved-then-as_slice-at : goal.loop-at-preserved-then-as_slice-at
loop-at-preserved-then-as_slice-at c =
    ap (λ xs. take c.loop-at.at xs ++ without c.args.label (drop c.loop-at.at xs)) c.remove.ensures.rest
    ∙ removed c.args.label c.loop-at.guards c.loop-at.at 0 (omega arith)
    (ap (λ xs. get_or xs c.loop-at.at 0) (sym c.as_slice.ensures.value) ∙ c.if-as_slice-at.true) ∙ c.loop-at.invariant

pub returns : goal.returns
returns c =
    ap guards_of (sym (passed_all c.args.label c.loop-at.guards c.loop-at.at (omega arith)) ∙ c.loop-at.invariant) ∙ reset c.args.label c.args.guards.now

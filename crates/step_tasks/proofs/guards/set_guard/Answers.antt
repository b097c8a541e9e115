use Rattle.std.proofs.lemmas.Result.{on_ok_weaker}
use Rattle.std.proofs.Common.{ap, sym, ◌∙◌}
use Rattle.step_tasks.specs.Controls.{guards_of}
use Rattle.step_tasks.proofs.GuardLemmas.{pushed, set_already}
use Rattle.step_tasks.proofs.guards.set_guard.Goals as goal

pub returns-then-is_set-clause-ok : goal.returns-then-is_set-clause-ok
returns-then-is_set-clause-ok c = set_already c.args.label c.args.guards.now (sym c.is_set.ensures ∙ c.if-is_set.true)

pub returns-clause-ok : goal.returns-clause-ok
returns-clause-ok c = on_ok_weaker c.push.result (λ e. ap guards_of e ∙ pushed c.args.label c.args.guards.now) c.push.ensures.ok

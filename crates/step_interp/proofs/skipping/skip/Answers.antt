use Rattle.std.proofs.lemmas.Result.{IfOk-weaker}
use Rattle.step_ahead.specs.Ahead.{GoesOn}
use Rattle.step_interp.specs.Skipped.{Skips}
use Rattle.step_interp.proofs.SkipLemmas.{skipped}
use Rattle.step_interp.proofs.skipping.skip.Goals as goal

pub returns-clause-ok : goal.returns-clause-ok
returns-clause-ok c =
    let old = c.args.machine.now in
    let s = c.advance.new.store in
    let tasks = c.advance.new.tasks in
    let values = c.advance.new.values in
    IfOk-weaker c.advance.result (λ n. GoesOn old.store s n old.call.tasks tasks old.call.values values)
    (λ n. Skips n old (record old { store = s; call = record old.call { tasks = tasks; values = values } }))
    (λ n g. skipped old n s tasks values c.advance.ensures.names g) c.advance.ensures.ok

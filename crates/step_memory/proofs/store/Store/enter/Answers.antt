use Rattle.std.proofs.Common.{suc, ◌+◌, ◌≡◌, arith}
use Rattle.step_memory.proofs.StoreLemmas.{enters}
use Rattle.step_memory.proofs.store.Store.enter.Goals as goal

pub returns-clause-ok : goal.returns-clause-ok
returns-clause-ok c =
    let e : suc c.args.self.now.newest ≡ c.args.self.now.newest + 1 = omega arith in
    enters c.args.self.now (c.args.self.now.newest + 1) c.args.slots c.put_slots.new.calls e c.in_ok-put_slots.ensures.ok

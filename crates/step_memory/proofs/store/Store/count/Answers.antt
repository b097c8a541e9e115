use Rattle.step_memory.specs.Stores.{names_of}
use Rattle.step_memory.specs.Values.{owner_of}
use Rattle.step_memory.proofs.store.Store.count.Goals as goal

pub returns-in-Some-clause-ok : goal.returns-in-Some-clause-ok
returns-in-Some-clause-ok c w h = c.count.ensures (names_of c.args.self.now) (w.variables (owner_of (names_of c.args.self.now) c.args.owner))
    (h.rooms c.args.owner c.in-Some.room.now c.in-Some.ensures)

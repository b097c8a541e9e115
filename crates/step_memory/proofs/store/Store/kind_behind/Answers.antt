use Rattle.step_memory.specs.Seen.{room_seen}
use Rattle.step_memory.specs.Stores.{names_of}
use Rattle.step_memory.specs.Values.{owner_of}
use Rattle.step_memory.proofs.store.Store.kind_behind.Goals as goal

pub returns-clause-ok : goal.returns-clause-ok
returns-clause-ok c w h = c.kind.ensures (names_of c.args.self.now) (w.variables (owner_of (names_of c.args.self.now) c.args.owner))
    (h.rooms c.args.owner (room_seen c.in_ok-room.field-0) c.in_ok-room.ensures.ok)

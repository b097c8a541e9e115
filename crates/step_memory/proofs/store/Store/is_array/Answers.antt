use Rattle.std.proofs.Common.{ap, ◌∙◌}
use Rattle.jump_meaning.specs.Calls.{is_array}
use Rattle.jump_meaning.specs.Values.{OfCall}
use Rattle.step_memory.specs.declared.value.Owner.TheVariants.{Call}
use Rattle.step_memory.specs.Seen.{room_seen}
use Rattle.step_memory.specs.Stores.{names_of}
use Rattle.step_memory.proofs.store.Store.is_array.Goals as goal

pub returns-clause-ok : goal.returns-clause-ok
returns-clause-ok c w h =
    ap (λ n. is_array (w.variables (OfCall n c.args.slot))) h.newest
    ∙ c.is_array.ensures (names_of c.args.self.now) (w.variables (OfCall c.args.self.now.newest c.args.slot))
    (h.rooms (Call c.args.self.now.newest c.args.slot) (room_seen c.in_ok-room.field-0) c.in_ok-room.ensures.ok)

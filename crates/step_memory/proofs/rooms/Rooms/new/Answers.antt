use Rattle.step_memory.proofs.PageLemmas.{rooms_new}
use Rattle.step_memory.proofs.rooms.Rooms.new.Goals as goal

pub returns : goal.returns
returns c = rooms_new c.args.parameters c.add_zero_rooms.new.rooms c.new.result c.args.slots.now c.more_at_start-count.result
    c.in_ok-add_zero_rooms.ensures c.new.ensures

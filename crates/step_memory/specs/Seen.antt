-- What is seen of a room that is made, or isn't made yet.
use Rattle.step_memory.specs.declared.room.Room.{Room}
use Rattle.step_memory.specs.declared.seen.Seen.{Seen}
use Rattle.step_memory.specs.declared.seen.Seen.TheVariants.{Made, Start}
use Rattle.step_memory.specs.Pages.{room_at_start}

abbrev pub room_seen : Seen → Room
room_seen (Made r) = r.now
room_seen (Start s) = room_at_start s.now

-- What a change makes of a variable.
use Rattle.jump_meaning.specs.Values.{Variable}
use Rattle.jump_meaning.specs.World.{with_number, with_zeros}
use Rattle.step_memory.specs.declared.rooms.Change.{Change}
use Rattle.step_memory.specs.declared.rooms.Change.TheVariants.{Set, Clear}

abbrev pub changed : Change → Variable → Variable
changed (Set i z) = with_number i z
changed (Clear i) = with_zeros i

use Rattle.std.proofs.Common.{[], refl}
use Rattle.c_printer.proofs.gap.read_begins_with.Goals as goal

pub returns : goal.returns
returns c = c.place_begins_with.ensures [] refl

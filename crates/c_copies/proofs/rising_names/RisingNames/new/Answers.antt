use Rattle.std.proofs.Common.{arith}
use Rattle.c_copies.proofs.Places.{none_rises}
use Rattle.c_copies.proofs.rising_names.RisingNames.new.Goals as goal

pub invariant_of-result : goal.invariant_of-result
invariant_of-result c = rw c.new.ensures.items (none_rises, omega arith)

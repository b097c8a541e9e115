use Rattle.std.proofs.Common.{All, take}
use Rattle.print_limits.specs.Limits.{TopIsWithin}
use Rattle.print_limits.proofs.tops.are_tops_within.Given as goal

abbrev pub invariant-loop-i : goal.invariant-loop-i
invariant-loop-i l = All TopIsWithin (take l.i l.tops)

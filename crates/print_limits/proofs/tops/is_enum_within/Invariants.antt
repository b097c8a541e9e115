use Rattle.std.proofs.Common.{All, take}
use Rattle.print_limits.specs.Limits.{EnumItemIsWithin}
use Rattle.print_limits.proofs.tops.is_enum_within.Given as goal

abbrev pub invariant-loop-i : goal.invariant-loop-i
invariant-loop-i l = All EnumItemIsWithin (take l.i l.items)

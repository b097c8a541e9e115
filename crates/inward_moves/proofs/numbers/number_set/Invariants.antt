use Rattle.std.proofs.Common.{◌≡◌, ℤ, Option, take}
use Rattle.std.specs.BTreeSet.{contains}
use Rattle.std.specs.List.{list_any}
use Rattle.std.specs.Option.{option_cmp}
use Rattle.std.specs.Ordering.{int_cmp}
use Rattle.inward_moves.proofs.FreeNumbers.{same}
use Rattle.inward_moves.proofs.numbers.number_set.Given as goal

abbrev pub invariant-loop-number : goal.invariant-loop-number
invariant-loop-number l = (n : Option ℤ) → contains (option_cmp int_cmp) l.set n ≡ list_any (same n) (take l.number-index l.numbers)

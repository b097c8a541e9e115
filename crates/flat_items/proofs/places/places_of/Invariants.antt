use Rattle.std.proofs.Common.{◌≡◌, ℤ, ◌-◌, length, drop, Some}
use Rattle.std.specs.BTreeMap.{get}
use Rattle.std.specs.Ordering.{int_cmp}
use Rattle.flat_items.proofs.SoughtPlaces.{sought}
use Rattle.flat_items.proofs.places.places_of.Given as goal

abbrev pub invariant-loop-k : goal.invariant-loop-k
invariant-loop-k l = (n : ℤ) → get int_cmp l.table n ≡ sought (Some n) (drop (length l.numbers - l.k) l.numbers) (length l.numbers - l.k)

use Rattle.std.proofs.Common.{◌≡◌, map, take}
use Rattle.move_driver.specs.Counts.{slot_count}
use Rattle.move_driver.proofs.counts.slot_counts.Given as goal

abbrev pub invariant-loop-top : goal.invariant-loop-top
invariant-loop-top l = l.out ≡ map slot_count (take l.top-index l.top-items)

use Rattle.std.proofs.Common.{◌≡◌, ◌+◌, ◌≤◌, drop}
use Rattle.move_driver.specs.Counts.{counted, guards_past}
use Rattle.move_driver.proofs.counts.count_guards.Given as goal

-- the guards so far, with those that are left, are all
abbrev pub invariant-loop-i : goal.invariant-loop-i
invariant-loop-i l = (l.guards ≤ 18446744073709551615) × (counted (l.guards + guards_past (drop l.i l.before) (drop l.i l.plain)) ≡ counted
    (guards_past l.before l.plain))

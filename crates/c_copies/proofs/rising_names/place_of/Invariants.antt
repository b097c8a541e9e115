use Rattle.std.proofs.Common.{◌-◌, ◌≤◌, length, take, drop}
use Rattle.c_copies.proofs.Places.{AreBelow, AreAbove}
use Rattle.c_copies.proofs.rising_names.place_of.Given as goal

abbrev pub invariant-loop-from : goal.invariant-loop-from
invariant-loop-from l = record {
  order : l.from ≤ l.to;
  within : l.to ≤ length l.names;
  below : AreBelow l.name (take l.from l.names);
  above : AreAbove l.name (drop l.to l.names);
}

abbrev pub decreases-loop-from : goal.decreases-loop-from
decreases-loop-from l = l.to - l.from

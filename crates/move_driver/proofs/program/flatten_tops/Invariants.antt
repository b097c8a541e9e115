use Rattle.std.proofs.Common.{◌≡◌, ℕ, List, ◌-◌, length}
use Rattle.flat_names.specs.Gathered.{AreGathered}
use Rattle.move_driver.proofs.Programs.{AreFlatTo}
use Rattle.move_driver.proofs.program.flatten_tops.Given as goal

abbrev pub invariant-loop-i : goal.invariant-loop-i
invariant-loop-i l = record {
  used : l.names.used.file ≡ l.initial.names.used.file;
  taken : l.names.taken.file ≡ l.initial.names.taken.file;
  flat : (names file : List (List ℕ)) → AreGathered names file l.initial.names → AreFlatTo names file l.i l.initial.tops l.tops;
}

abbrev pub decreases-loop-i : goal.decreases-loop-i
decreases-loop-i l = length l.tops - l.i

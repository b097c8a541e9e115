use Rattle.std.proofs.Common.{◌≡◌, ◌+◌, ◌-◌}
use Rattle.flat_names.specs.FlatNames.{name_cases}
use Rattle.flat_names.specs.Gathered.{given_of}
use Rattle.flat_names.proofs.giving.name_cases.Given as goal

abbrev pub invariant-loop-i : goal.invariant-loop-i
invariant-loop-i l = record {
  file : l.used.file ≡ l.initial.used.file;
  value : name_cases l.k (l.i + 1) (l.count - l.i) (given_of l.used l.given) ≡ name_cases l.k 1 l.count (given_of l.initial.used l.initial.given);
}

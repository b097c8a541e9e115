use Rattle.std.proofs.Common.{◌≡◌, drop, ◌+◌}
use Rattle.flat_names.specs.FlatNames.{name_constructs}
use Rattle.flat_names.specs.Gathered.{given_of}
use Rattle.flat_names.proofs.giving.name_constructs.Given as goal

abbrev pub invariant-loop-i : goal.invariant-loop-i
invariant-loop-i l = record {
  file : l.used.file ≡ l.initial.used.file;
  value : name_constructs (l.i + 1) (drop l.i l.constructs) (given_of l.used l.given) ≡ name_constructs 1 l.constructs
      (given_of l.initial.used l.initial.given);
}

use Rattle.std.proofs.Common.{◌≡◌, drop, ◌++◌}
use Rattle.flat_names.specs.FlatNames.{label_names}
use Rattle.flat_names.specs.Gathered.{all_used}
use Rattle.flat_names.proofs.labels.label_names.Given as goal

abbrev pub invariant-loop-i : goal.invariant-loop-i
invariant-loop-i l = record {
  file : l.used.file ≡ l.initial.used.file;
  value : l.out ++ label_names l.labels l.made (all_used l.used) (drop l.i l.codes) ≡ label_names l.labels l.made (all_used l.initial.used) l.codes;
}

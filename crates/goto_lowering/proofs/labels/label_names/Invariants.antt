use Rattle.std.proofs.Common.{◌≡◌, ◌≤◌, ◌+◌, ◌++◌, drop}
use Rattle.flat_names.specs.Gathered.{all_used}
use Rattle.lower_laws.specs.Lowering.{label_names}
use Rattle.goto_lowering.proofs.labels.label_names.Given as goal

abbrev pub invariant-loop-i : goal.invariant-loop-i
invariant-loop-i l = record {
  file : l.used.file ≡ l.initial.used.file;
  next : l.next ≤ l.i + 1;
  value : l.out ++ label_names l.labels (all_used l.used) l.next (drop l.i l.codes) ≡ label_names l.labels (all_used l.initial.used) 1 l.codes;
}

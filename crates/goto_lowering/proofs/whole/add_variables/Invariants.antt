use Rattle.std.proofs.Common.{◌≡◌, ◌+◌, drop}
use Rattle.flat_names.specs.Gathered.{named_of}
use Rattle.lower_laws.specs.Lowering.{with_variables}
use Rattle.goto_lowering.proofs.whole.add_variables.Given as goal

abbrev pub invariant-loop-i : goal.invariant-loop-i
invariant-loop-i l = record {
  file : l.used.file ≡ l.initial.used.file;
  value : with_variables (l.i + 1) (drop l.i l.constructs) (named_of l.used l.slots) ≡ with_variables 1 l.constructs (named_of l.initial.used l.initial.slots);
}

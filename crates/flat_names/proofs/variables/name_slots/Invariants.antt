use Rattle.std.proofs.Common.{◌≡◌, drop, ◌-◌}
use Rattle.flat_names.specs.FlatNames.{named_slots}
use Rattle.flat_names.specs.FlatNames.{before_named}
use Rattle.flat_names.specs.Gathered.{all_used}
use Rattle.flat_names.specs.Numbers.{AreUsedBelow}
use Rattle.flat_names.proofs.variables.name_slots.Given as goal

abbrev pub invariant-loop-i : goal.invariant-loop-i
invariant-loop-i l = record {
  taken_file : l.taken.file ≡ l.initial.taken.file;
  numbers : AreUsedBelow (all_used l.used) l.numbers;
  used_file : l.used.file ≡ l.initial.used.file;
  value : before_named l.named (named_slots (l.params - l.i) (all_used l.taken) (all_used l.used) (drop l.i l.slots)) ≡ named_slots l.params
      (all_used l.initial.taken) (all_used l.initial.used) l.slots;
}

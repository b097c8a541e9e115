use Rattle.std.proofs.Common.{◌≡◌, map}
use Rattle.guard_vars.specs.GuardNames.{guard_names_beside}
use Rattle.plain_laws.specs.Plain.{plain_top}
use Rattle.plain_form.proofs.tops.plain_tops.Given as goal

abbrev pub invariant-loop-top : goal.invariant-loop-top
invariant-loop-top l = record {
  file : l.used.file ≡ l.initial.used.file;
  value : l.out ≡ map (plain_top (guard_names_beside l.initial.used.file)) l.yielded;
}

use Rattle.std.proofs.Common.{◌≡◌, ◌++◌, drop}
use Rattle.c_copies.specs.Names.{with_names}
use Rattle.guard_vars.specs.GuardNames.{named_guards, AreNew}
use Rattle.guard_vars.proofs.GuardNames.{used_after, AreSameNames}
use Rattle.guard_vars.proofs.names.named_guards.Given as goal

abbrev pub invariant-loop-i : goal.invariant-loop-i
invariant-loop-i l = record {
  file : l.used.file ≡ l.initial.used.file;
  value : l.out ++ named_guards (with_names l.used.file l.used.own) (drop l.i l.labels) ≡ named_guards
      (with_names l.initial.used.file l.initial.used.own) l.labels;
  same : AreSameNames (with_names l.used.file l.used.own) (used_after (with_names l.initial.used.file l.initial.used.own) l.out);
  new_names : AreNew (with_names l.initial.used.file l.initial.used.own) l.out;
}

use Rattle.std.proofs.Common.{◌≡◌, drop}
use Rattle.c_kinds.specs.Calls.{argument_faults}
use Rattle.c_kinds.proofs.faults.report_each.Given as goal

abbrev pub invariant-loop-i : goal.invariant-loop-i
invariant-loop-i l = argument_faults (drop l.i l.wants) (drop l.i l.given) l.faults ≡ argument_faults l.wants l.given l.initial.faults

use Rattle.std.proofs.Common.{◌≡◌, false, drop}
use Rattle.c_statements.specs.Cases.{default_faults}
use Rattle.c_statements.proofs.cases.report_defaults.Given as goal

abbrev pub invariant-loop-entry : goal.invariant-loop-entry
invariant-loop-entry l = default_faults l.default (drop l.entry-index l.entries) l.faults ≡ default_faults false l.entries l.initial.faults

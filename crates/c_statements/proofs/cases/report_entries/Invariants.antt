use Rattle.std.proofs.Common.{◌≡◌, [], false, drop}
use Rattle.c_statements.specs.Cases.{entry_faults}
use Rattle.c_statements.proofs.cases.report_entries.Given as goal

abbrev pub invariant-loop-entry : goal.invariant-loop-entry
invariant-loop-entry l = entry_faults l.kind l.seen l.default (drop l.entry-index l.entries) l.faults ≡ entry_faults l.kind [] false l.entries l.initial.faults

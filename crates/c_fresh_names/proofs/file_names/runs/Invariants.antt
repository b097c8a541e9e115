use Rattle.c_fresh_names.specs.Runs.{AreRuns}
use Rattle.c_fresh_names.proofs.file_names.runs.Given as goal

abbrev pub invariant-loop-i : goal.invariant-loop-i
invariant-loop-i l = AreRuns l.names l.runs

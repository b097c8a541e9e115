use Rattle.c_fresh_names.specs.Runs.{AreUsedFrom}
use Rattle.c_fresh_names.proofs.file_names.behind.Given as goal

abbrev pub invariant-loop-n : goal.invariant-loop-n
invariant-loop-n l = AreUsedFrom l.names l.base l.first l.n

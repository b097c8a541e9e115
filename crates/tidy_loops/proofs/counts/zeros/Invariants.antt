use Rattle.std.proofs.Common.{◌≡◌, replicate}
use Rattle.tidy_loops.proofs.counts.zeros.Given as goal

abbrev pub invariant-loop-i : goal.invariant-loop-i
invariant-loop-i l = l.counts ≡ replicate l.i 0

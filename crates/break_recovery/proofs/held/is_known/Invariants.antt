use Rattle.std.proofs.Common.{◌≡◌}
use Rattle.break_recovery.proofs.held.is_known.Given as goal

abbrev pub invariant-loop-i : goal.invariant-loop-i
invariant-loop-i l = l.all ≡ l.known

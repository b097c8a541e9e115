use Rattle.std.proofs.Common.{◌≡◌}
use Rattle.break_recovery.proofs.boxes.unboxed.Given as goal

abbrev pub invariant-loop-item : goal.invariant-loop-item
invariant-loop-item l = l.items ≡ l.yielded

use Rattle.std.proofs.Common.{◌≡◌, false, replicate}
use Rattle.break_recovery.proofs.functions.none_gone.Given as goal

abbrev pub invariant-loop-i : goal.invariant-loop-i
invariant-loop-i l = l.gone ≡ replicate l.i false

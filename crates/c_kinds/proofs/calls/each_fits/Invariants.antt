use Rattle.std.proofs.Common.{◌≡◌, drop}
use Rattle.c_kinds.specs.Calls.{each_fits}
use Rattle.c_kinds.proofs.calls.each_fits.Given as goal

abbrev pub invariant-loop-i : goal.invariant-loop-i
invariant-loop-i l = each_fits (drop l.i l.wants) (drop l.i l.given) ≡ each_fits l.wants l.given

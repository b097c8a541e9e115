use Rattle.std.proofs.Common.{◌≡◌, ◌-◌, length}
use Rattle.c_fresh_names.specs.Fresh.{first_free}
use Rattle.c_fresh_names.proofs.names.first_free.Given as goal

abbrev pub invariant-loop-n : goal.invariant-loop-n
invariant-loop-n l = first_free l.used l.base l.n (l.end - l.n) ≡ first_free l.used l.base 2 (length l.used)

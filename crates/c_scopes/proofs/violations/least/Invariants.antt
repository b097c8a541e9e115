use Rattle.std.proofs.Common.{◌≡◌, length}
use Rattle.c_scopes.specs.Resolving.{least, least_with}
use Rattle.c_scopes.proofs.violations.least.Given as goal

abbrev pub invariant-loop-v : goal.invariant-loop-v
invariant-loop-v l = least_with l.found l.left ≡ least l.fn.faults

abbrev pub decreases-loop-v : goal.decreases-loop-v
decreases-loop-v l = length l.left

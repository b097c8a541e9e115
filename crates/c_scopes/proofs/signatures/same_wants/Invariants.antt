use Rattle.std.proofs.Common.{◌≡◌, drop}
use Rattle.c_scopes.specs.FunctionNames.{same_wants}
use Rattle.c_scopes.proofs.signatures.same_wants.Given as goal

abbrev pub invariant-loop-i : goal.invariant-loop-i
invariant-loop-i l = same_wants (drop l.i l.a) (drop l.i l.b) ≡ same_wants l.a l.b

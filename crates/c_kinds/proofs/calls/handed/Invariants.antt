use Rattle.std.proofs.Common.{◌≡◌, ◌++◌}
use Rattle.c_kinds.specs.Calls.{all_handed}
use Rattle.c_kinds.proofs.calls.handed.Given as goal

abbrev pub invariant-loop-x : goal.invariant-loop-x
invariant-loop-x l = l.out ≡ l.initial.out ++ all_handed l.yielded

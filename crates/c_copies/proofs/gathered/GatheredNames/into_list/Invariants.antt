use Rattle.std.proofs.Common.{◌≡◌, ◌++◌}
use Rattle.c_copies.proofs.gathered.GatheredNames.into_list.Given as goal

abbrev pub invariant-loop-name : goal.invariant-loop-name
invariant-loop-name l = l.out ++ l.name-iterator ≡ l.fn.self

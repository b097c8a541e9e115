use Rattle.std.proofs.Common.{◌≡◌, ◌++◌, map}
use Rattle.std.specs.String.{string_bytes}
use Rattle.c_copies.proofs.name_set.NameSet.into_list.Given as goal

abbrev pub invariant-loop-name : goal.invariant-loop-name
invariant-loop-name l = l.out ++ map string_bytes l.name-iterator ≡ l.fn.self

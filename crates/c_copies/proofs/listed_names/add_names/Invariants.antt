use Rattle.std.proofs.Common.{◌≡◌, drop}
use Rattle.c_copies.specs.Names.{with_names}
use Rattle.c_copies.proofs.listed_names.add_names.Given as goal

abbrev pub invariant-loop-name : goal.invariant-loop-name
invariant-loop-name l = with_names l.set (drop l.name-index l.names) ≡ with_names l.initial.set l.names

use Rattle.std.proofs.Common.{◌≡◌, drop}
use Rattle.c_copies.specs.Names.{with_names}
use Rattle.c_fresh_names.proofs.file_names.add_given.Given as goal

abbrev pub invariant-loop-name : goal.invariant-loop-name
invariant-loop-name l = with_names l.used (drop l.name-index l.names) ≡ with_names l.initial.used l.names

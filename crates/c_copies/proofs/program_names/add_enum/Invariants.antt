use Rattle.std.proofs.Common.{◌≡◌, drop}
use Rattle.c_copies.specs.Names.{with_names, enums_names}
use Rattle.c_copies.proofs.program_names.add_enum.Given as goal

abbrev pub invariant-loop-i : goal.invariant-loop-i
invariant-loop-i l = with_names l.set (enums_names (drop l.i l.items)) ≡ with_names l.initial.set (enums_names l.items)

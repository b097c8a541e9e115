use Rattle.std.proofs.Common.{◌≡◌, drop}
use Rattle.c_copies.specs.Names.{with_names, enums_name}
use Rattle.c_copies.proofs.program_names.add_enum_names.Given as goal

abbrev pub invariant-loop-i : goal.invariant-loop-i
invariant-loop-i l = with_names l.set (enums_name (drop l.i l.items)) ≡ with_names l.initial.set (enums_name l.items)

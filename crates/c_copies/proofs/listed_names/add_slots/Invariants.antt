use Rattle.std.proofs.Common.{◌≡◌, drop}
use Rattle.c_copies.specs.Names.{with_names, slots_names}
use Rattle.c_copies.proofs.listed_names.add_slots.Given as goal

abbrev pub invariant-loop-i : goal.invariant-loop-i
invariant-loop-i l = with_names l.set (slots_names (drop l.i l.slots)) ≡ with_names l.initial.set (slots_names l.slots)

use Rattle.std.proofs.Common.{◌≡◌, drop}
use Rattle.c_copies.specs.Names.{with_names, tops_names}
use Rattle.c_copies.proofs.program_names.add_tops.Given as goal

abbrev pub invariant-loop-i : goal.invariant-loop-i
invariant-loop-i l = with_names l.set (tops_names (drop l.i l.tops)) ≡ with_names l.initial.set (tops_names l.tops)

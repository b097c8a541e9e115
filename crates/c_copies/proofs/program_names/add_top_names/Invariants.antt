use Rattle.std.proofs.Common.{◌≡◌, drop}
use Rattle.c_copies.specs.Names.{with_names, tops_name}
use Rattle.c_copies.proofs.program_names.add_top_names.Given as goal

abbrev pub invariant-loop-i : goal.invariant-loop-i
invariant-loop-i l = with_names l.set (tops_name (drop l.i l.tops)) ≡ with_names l.initial.set (tops_name l.tops)

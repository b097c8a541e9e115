use Rattle.std.proofs.Common.{◌≡◌, drop}
use Rattle.c_tree.specs.Trees.{trees_of}
use Rattle.break_recovery.specs.Fronts.{all_marked, all_undeclared}
use Rattle.break_recovery.proofs.functions.undeclare_all.Given as goal

abbrev pub invariant-loop-i : goal.invariant-loop-i
invariant-loop-i l =
    (all_marked l.gone (drop l.i l.slots) ≡ all_marked l.initial.gone l.slots)
    × (all_undeclared (drop l.i l.slots) (trees_of l.list) ≡ all_undeclared l.slots (trees_of l.initial.list))

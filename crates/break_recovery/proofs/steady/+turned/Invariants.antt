use Rattle.std.proofs.Common.{◌≡◌, drop}
use Rattle.c_tree.specs.Trees.{trees_of, sections_of}
use Rattle.break_recovery.specs.Steady.{both, turned, sections_turned}
use Rattle.break_recovery.proofs.steady.+turned.Given as goal

abbrev pub invariant-items_turned-loop-i : goal.invariant-items_turned-loop-i
invariant-items_turned-loop-i l = both l.turned (turned l.slot (trees_of (drop l.i l.items))) ≡ both l.initial.turned (turned l.slot (trees_of l.items))

abbrev pub invariant-sections_turned-loop-i : goal.invariant-sections_turned-loop-i
invariant-sections_turned-loop-i l =
    both l.turned (sections_turned l.slot (sections_of (drop l.i l.sections))) ≡ both l.initial.turned (sections_turned l.slot (sections_of l.sections))

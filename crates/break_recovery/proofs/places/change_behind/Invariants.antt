use Rattle.std.proofs.Common.{◌≡◌, ◌-◌, length, reverse}
use Rattle.c_tree.specs.Trees.{trees_of}
use Rattle.jump_meaning.specs.Code.{FunctionTree}
use Rattle.tidy_loops.specs.Slots.{Tells}
use Rattle.break_recovery.specs.Places.{behind, AreQuiet}
use Rattle.break_recovery.specs.Ways.{IsWayAt}
use Rattle.break_recovery.proofs.places.change_behind.Given as goal

abbrev pub invariant-loop-i : goal.invariant-loop-i
invariant-loop-i l =
    (l.list ≡ l.initial.list)
    × ((f : FunctionTree) → Tells l.counts f → AreQuiet f l.level l.from (trees_of l.initial.list) →
    IsWayAt l.initial.sure f l.level (reverse l.initial.way) (behind l.from (trees_of l.initial.list))
    → AreQuiet f l.level l.i (trees_of l.initial.list) × IsWayAt l.sure f l.level (reverse l.way) (behind l.i (trees_of l.initial.list)))

abbrev pub decreases-loop-i : goal.decreases-loop-i
decreases-loop-i l = length l.list - l.i

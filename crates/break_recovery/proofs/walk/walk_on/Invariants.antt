use Rattle.std.proofs.Common.{suc, ◌<◌, ◌≤◌, length}
use Rattle.c_tree.specs.Trees.{trees_of}
use Rattle.break_recovery.specs.Next.{next_list}
use Rattle.break_recovery.specs.Places.{AreQuiet}
use Rattle.break_recovery.specs.Steady.{AreAlike}
use Rattle.break_recovery.specs.InARow.{IsRow, closed}
use Rattle.tidy_loops.specs.Slots.{count_in}
use Rattle.break_recovery.specs.Within.{IsWithin}
use Rattle.break_recovery.specs.Held.{AreHeld}
use Rattle.break_recovery.proofs.walk.walk_on.Given as goal

abbrev pub invariant-steps : goal.invariant-steps
invariant-steps l =
    ((l.walk.at < l.walk.next) × (l.walk.next ≤ length l.list))
    × (IsWithin (count_in l.counts) (trees_of (closed l.walk.at l.walk.next l.list))
    × (AreHeld l.holds.known l.list l.walk.next
    × IsRow (λ f. next_list f l.level) AreAlike (λ f. AreQuiet f (suc l.level)) l.initial.counts l.counts l.slots l.initial.walk.at l.walk.at
    (trees_of (closed l.initial.walk.at l.initial.walk.next l.initial.list)) (trees_of (closed l.walk.at l.walk.next l.list))))

abbrev pub decreases-steps : goal.decreases-steps
decreases-steps l = l.left

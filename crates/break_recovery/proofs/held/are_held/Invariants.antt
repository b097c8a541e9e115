use Rattle.std.proofs.Common.{ℕ, ◌≡◌, ◌⊎◌, ◌<◌, get_or}
use Rattle.tidy_loops.specs.Slots.{count_in}
use Rattle.break_recovery.specs.Held.{IsHeldBehind, AreHeld}
use Rattle.break_recovery.proofs.held.are_held.Given as goal

abbrev pub invariant-loop-i : goal.invariant-loop-i
invariant-loop-i l = record {
  same : l.slots ≡ l.turned.slots;
  known : AreHeld l.holds.known l.list l.place;
  held : (j : ℕ) → j < l.i → (count_in l.counts (get_or l.slots j 0) ≡ 0) ⊎ IsHeldBehind (get_or l.slots j 0) l.list l.place;
}

use Rattle.std.proofs.Common.{ℕ, [], ◌≡◌, ◌≤◌, get_or, length}
use Rattle.step_memory.specs.Pages.{shown, ArePages}
use Rattle.step_memory.proofs.rooms.add_pages.Given as goal

abbrev pub invariant-loop-at : goal.invariant-loop-at
invariant-loop-at l = record {
  pages : ArePages l.pages l.slots;
  rooms : shown l.pages l.slots ≡ shown l.initial.pages l.slots;
  each : (q : ℕ) → get_or l.pages q [] ≡ get_or l.initial.pages q [];
  count : l._at ≤ length l.pages;
}

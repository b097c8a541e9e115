use Rattle.std.proofs.Common.{◌≡◌, ℕ, length}
use Rattle.jump_meaning.specs.Code.{entry_or}
use Rattle.step_tasks.proofs.table.make_room.Given as goal

abbrev pub invariant-loop : goal.invariant-loop
invariant-loop l = record {
  room : length l.starts ≡ l.counter;
  same : (m : ℕ) → entry_or 0 l.starts m ≡ entry_or 0 l.initial.starts m;
}

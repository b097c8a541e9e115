use Rattle.std.proofs.Common.{◌≡◌, ◌≤◌, ◌+◌, ◌-◌, drop, length}
use Rattle.c_comments.specs.Notes.{next_token}
use Rattle.c_comments.proofs.notes.next_token.Given as goal

abbrev pub invariant-loop-at : goal.invariant-loop-at
invariant-loop-at l = record {
  within : l.at ≤ length l.tokens;
  begun : next_token l.tokens l.fn.start ≡ l.at + next_token (drop l.at l.tokens) l.fn.start;
}

abbrev pub decreases-loop-at : goal.decreases-loop-at
decreases-loop-at l = length l.tokens - l.at

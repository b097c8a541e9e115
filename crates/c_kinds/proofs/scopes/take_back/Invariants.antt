use Rattle.std.proofs.Common.{◌≡◌, drop, length, reverse}
use Rattle.c_kinds.specs.ScopeLogs.{scopes_after, IsLog, HasLast}
use Rattle.c_kinds.proofs.scopes.take_back.Given as goal

abbrev pub invariant-loop-step : goal.invariant-loop-step
invariant-loop-step l =
    (drop 1 (scopes_after (reverse l.steps)) ≡ drop 1 (scopes_after (reverse l.fn.steps)))
    × IsLog (reverse l.steps)
    × HasLast l.numbers (reverse l.steps)

abbrev pub decreases-loop-step : goal.decreases-loop-step
decreases-loop-step l = length l.steps

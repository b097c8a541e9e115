use Rattle.std.proofs.Common.{◌≡◌, ◌++◌, ◌-◌, take, drop, length}
use Rattle.step_tasks.proofs.GuardLemmas.{without}
use Rattle.step_tasks.proofs.guards.reset_guard.Given as goal

abbrev pub invariant-loop-at : goal.invariant-loop-at
invariant-loop-at l = take l.at l.guards ++ without l.label (drop l.at l.guards) ≡ without l.label l.initial.guards

abbrev pub decreases-loop-at : goal.decreases-loop-at
decreases-loop-at l = length l.guards - l.at

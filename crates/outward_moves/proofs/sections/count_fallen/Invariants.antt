use Rattle.std.proofs.Common.{◌≡◌, ◌+◌, ◌≤◌, drop}
use Rattle.outward_moves.specs.Fallen.{fallen}
use Rattle.outward_moves.proofs.sections.count_fallen.Given as goal

abbrev pub invariant-loop-k : goal.invariant-loop-k
invariant-loop-k l = (fallen (drop l.from l.sections) ≡ l.n + fallen (drop l.k l.sections)) × (l.n ≤ l.k)

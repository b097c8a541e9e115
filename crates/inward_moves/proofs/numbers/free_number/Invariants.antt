use Rattle.std.proofs.Common.{ℕ, ◌<◌, pos, Some}
use Rattle.std.specs.Prelude.{Contains}
use Rattle.inward_moves.proofs.numbers.free_number.Given as goal

abbrev pub invariant-loop-m : goal.invariant-loop-m
invariant-loop-m l = (j : ℕ) → j < l.m → Contains l.numbers.items (Some (pos j))

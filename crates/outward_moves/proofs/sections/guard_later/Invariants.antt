use Rattle.std.proofs.Common.{◌≡◌, ◌≤◌, ◌++◌, length, take, drop, vec_len}
use Rattle.c_tree.specs.Outward.{later_guarded}
use Rattle.outward_moves.specs.Fallen.{fallen}
use Rattle.outward_moves.proofs.sections.guard_later.Given as goal

abbrev pub invariant-loop-k : goal.invariant-loop-k
invariant-loop-k l =
    (take l.k l.sections ++ later_guarded l.label (drop l.k l.sections) ≡ take l.from l.initial.sections ++
    later_guarded l.label (drop l.from l.initial.sections))
    × (length l.sections ≡ l.n) × (fallen (drop l.k l.sections) ≤ vec_len l.rooms)

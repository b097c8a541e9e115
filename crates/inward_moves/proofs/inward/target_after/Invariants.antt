use Rattle.std.proofs.Common.{ℕ, ◌<◌, slice_get}
use Rattle.c_tree.specs.declared.tree.Branch.{Branch}
use Rattle.c_tree.specs.Join.{Holds}
use Rattle.inward_moves.specs.Entering.{LeadsTo}
use Rattle.inward_moves.proofs.inward.target_after.Given as goal

abbrev pub invariant-loop-j : goal.invariant-loop-j
invariant-loop-j l = (k : ℕ) (b : Branch) → l.leap < k → k < l.j → Holds (LeadsTo l.label b) (slice_get l.items k) → ⊥

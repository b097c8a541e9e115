use Rattle.std.proofs.Common.{ℕ, ◌<◌, slice_get}
use Rattle.c_tree.specs.Join.{Holds}
use Rattle.c_tree.specs.Labels.{lands}
use Rattle.c_tree.specs.Paths.{list_of}
use Rattle.c_tree.specs.Trees.{trees_of}
use Rattle.inward_moves.proofs.finding.section_with.Given as goal

abbrev pub invariant-loop-k : goal.invariant-loop-k
invariant-loop-k l = (j : ℕ) → j < l.k → Holds (λ c. 0 < lands l.label (trees_of (list_of c))) (slice_get l.sections j) → ⊥

use Rattle.std.proofs.Common.{ℕ, ◌<◌, slice_get}
use Rattle.c_tree.specs.Join.{Holds}
use Rattle.c_tree.specs.Labels.{lands_inside}
use Rattle.c_tree.specs.Trees.{tree_of}
use Rattle.goto_lifting.proofs.lifting.held_before.Given as goal

abbrev pub invariant-loop-i : goal.invariant-loop-i
invariant-loop-i l = (k : ℕ) → k < l.i → Holds (λ x. 0 < lands_inside l.label (tree_of x)) (slice_get l.items k) → ⊥

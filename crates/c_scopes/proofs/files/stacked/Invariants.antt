use Rattle.std.proofs.Common.{◌≡◌, ◌++◌, length}
use Rattle.c_scopes.proofs.files.stacked.Given as goal

abbrev pub invariant-loop-x : goal.invariant-loop-x
invariant-loop-x l = l.nodes ++ l.stack ≡ l.fn.nodes

abbrev pub decreases-loop-x : goal.decreases-loop-x
decreases-loop-x l = length l.nodes

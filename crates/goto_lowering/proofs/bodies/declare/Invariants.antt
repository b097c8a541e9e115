use Rattle.std.proofs.Common.{◌≡◌, ◌+◌, ◌-◌}
use Rattle.c_tree.specs.Trees.{trees_of, join}
use Rattle.lower_laws.specs.Lowered.{declarations}
use Rattle.goto_lowering.proofs.bodies.declare.Given as goal

abbrev pub invariant-loop-i : goal.invariant-loop-i
invariant-loop-i l = join (trees_of l.out) (declarations (l.from + l.i) (l.count - l.i)) ≡ join (trees_of l.initial.out) (declarations l.from l.count)

use Rattle.c_tree.specs.Trees.{trees_of}
use Rattle.guard_simplify.proofs.Sizes.{size}
use Rattle.move_bodies.specs.Simplified.{IsSimplifiedTo}
use Rattle.move_bodies.proofs.all_choices.simplify_body.Given as goal

abbrev pub invariant-loop-next : goal.invariant-loop-next
invariant-loop-next l = IsSimplifiedTo l.initial.body l.body l.choices l.next l.barred

abbrev pub decreases-loop-next : goal.decreases-loop-next
decreases-loop-next l = size (trees_of l.body)

use Rattle.std.proofs.Common.{◌≡◌, [], take}
use Rattle.c_tree.specs.Trees.{trees_of}
use Rattle.label_offsets.specs.Leaps.{leaps_from}
use Rattle.move_order_laws.specs.Leaps.{leaps}
use Rattle.move_bodies.specs.Moving.{IsDerivedTo}
use Rattle.move_bodies.proofs.moving.derive.Given as goal

abbrev pub invariant-loop-moves : goal.invariant-loop-moves
invariant-loop-moves l = IsDerivedTo l.initial.body l.body l.moves × (leaps_from 0 (take l.front l.body) ≡ [])

abbrev pub decreases-loop-moves : goal.decreases-loop-moves
decreases-loop-moves l = leaps (trees_of l.body)

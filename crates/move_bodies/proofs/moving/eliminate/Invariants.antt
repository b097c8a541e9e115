use Rattle.move_bodies.specs.Moving.{IsUnderway, moves_ahead}
use Rattle.move_bodies.specs.Leaving.{AheadIf}
use Rattle.move_bodies.proofs.moving.eliminate.Given as goal

abbrev pub invariant-loop-next : goal.invariant-loop-next
invariant-loop-next l = IsUnderway l.label l.fn.at l.next l.fn.body l.body l.fn.moves l.moves × AheadIf l.label l.body l.next

abbrev pub decreases-loop-next : goal.decreases-loop-next
decreases-loop-next l = moves_ahead l.label l.body l.next

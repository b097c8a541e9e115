use Rattle.tidy_slots.proofs.RemovalLaws.{Same}
use Rattle.tidy_slots.proofs.LoopLaws.{DoneTo}
use Rattle.tidy_slots.specs.Numbers.{number}
use Rattle.tidy_slots.proofs.renumber_expressions.+renumbering.Given as goal

abbrev pub invariant-renumber_each-loop-i : goal.invariant-renumber_each-loop-i
invariant-renumber_each-loop-i l = goal.unvisited-renumber_each-loop-i l × DoneTo (Same (number l.numbers)) l.i l.initial.items l.items

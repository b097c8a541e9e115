use Rattle.tidy_slots.proofs.NumberLaws.{CountedTo}
use Rattle.tidy_slots.proofs.numbers.new_numbers.Given as goal

abbrev pub invariant-loop-i : goal.invariant-loop-i
invariant-loop-i l = CountedTo l.gone l.i l.before l.total

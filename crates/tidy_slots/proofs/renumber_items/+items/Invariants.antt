use Rattle.tidy_slots.proofs.ItemRemovals.{SameItem, SameSection}
use Rattle.tidy_slots.proofs.LoopLaws.{DoneTo}
use Rattle.tidy_slots.specs.Numbers.{number}
use Rattle.tidy_slots.proofs.renumber_items.+items.Given as goal

abbrev pub invariant-renumber_items-loop-i : goal.invariant-renumber_items-loop-i
invariant-renumber_items-loop-i l = goal.unvisited-renumber_items-loop-i l × DoneTo (SameItem (number l.numbers)) l.i l.initial.items l.items

abbrev pub invariant-renumber_sections-loop-i : goal.invariant-renumber_sections-loop-i
invariant-renumber_sections-loop-i l = goal.unvisited-renumber_sections-loop-i l × DoneTo (SameSection (number l.numbers)) l.i l.initial.sections l.sections

use Rattle.plain_form.specs.Made.{made_item, made_section}
use Rattle.plain_form.proofs.InPlace.{DoneTo}
use Rattle.plain_form.proofs.items.+made_items.Given as goal

abbrev pub invariant-make_items-loop-i : goal.invariant-make_items-loop-i
invariant-make_items-loop-i l = goal.unvisited-make_items-loop-i l × DoneTo (made_item l.guards) l.i l.initial.items l.items

abbrev pub invariant-make_sections-loop-i : goal.invariant-make_sections-loop-i
invariant-make_sections-loop-i l = goal.unvisited-make_sections-loop-i l × DoneTo (made_section l.guards) l.i l.initial.items l.items

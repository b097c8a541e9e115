use Rattle.tidy_loops.specs.Exits.{jump_of}
use Rattle.tidy_loops.proofs.InPlace.{MadeFrom, item_change, section_change}
use Rattle.tidy_loops.proofs.tails.+rewrite.Given as goal

abbrev pub invariant-rewrite_items-items : goal.invariant-rewrite_items-items
invariant-rewrite_items-items l = MadeFrom (item_change l.tail l.slot (jump_of l.exit)) l.left l.initial.items l.ahead l.items l.still

abbrev pub decreases-rewrite_items-items : goal.decreases-rewrite_items-items
decreases-rewrite_items-items l = l.ahead

abbrev pub invariant-rewrite_sections-sections : goal.invariant-rewrite_sections-sections
invariant-rewrite_sections-sections l = MadeFrom (section_change l.slot) l.left l.initial.sections l.ahead l.sections l.still

abbrev pub decreases-rewrite_sections-sections : goal.decreases-rewrite_sections-sections
decreases-rewrite_sections-sections l = l.ahead

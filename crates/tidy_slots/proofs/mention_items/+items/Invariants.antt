use Rattle.std.proofs.Common.{◌≡◌, drop, not}
use Rattle.c_tree.specs.Trees.{trees_of, sections_of}
use Rattle.tidy_laws.specs.Mentions.{list_lacks, sections_lack}
use Rattle.tidy_slots.proofs.mention_items.+items.Given as goal

abbrev pub invariant-items_name-loop-i : goal.invariant-items_name-loop-i
invariant-items_name-loop-i l = not (list_lacks l.slot (trees_of l.items)) ≡ not (list_lacks l.slot (trees_of (drop l.i l.items)))

abbrev pub invariant-sections_name-loop-i : goal.invariant-sections_name-loop-i
invariant-sections_name-loop-i l = not (sections_lack l.slot (sections_of l.sections)) ≡ not (sections_lack l.slot (sections_of (drop l.i l.sections)))

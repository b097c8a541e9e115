use Rattle.std.proofs.Common.{◌≡◌, drop, ◌++◌}
use Rattle.c_tree.specs.Trees.{trees_of, sections_of}
use Rattle.lower_laws.specs.Lowering.{constructs, constructs_among}
use Rattle.goto_lowering.proofs.listing.+listing.Given as goal

abbrev pub invariant-add_items-loop-i : goal.invariant-add_items-loop-i
invariant-add_items-loop-i l = l.out ++ constructs (trees_of (drop l.i l.items)) ≡ l.initial.out ++ constructs (trees_of l.items)

abbrev pub invariant-add_sections-loop-i : goal.invariant-add_sections-loop-i
invariant-add_sections-loop-i l = l.out ++ constructs_among (sections_of (drop l.i l.sections)) ≡ l.initial.out ++ constructs_among (sections_of l.sections)

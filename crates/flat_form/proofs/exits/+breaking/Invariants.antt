use Rattle.std.proofs.Common.{◌≡◌, drop, ◌+◌}
use Rattle.c_tree.specs.Exits.{breaks}
use Rattle.c_tree.specs.Trees.{trees_of}
use Rattle.flat_form.proofs.exits.+breaking.Given as goal

abbrev pub invariant-add_breaks_among-loop-i : goal.invariant-add_breaks_among-loop-i
invariant-add_breaks_among-loop-i l = l.count + breaks (trees_of (drop l.i l.items)) ≡ l.initial.count + breaks (trees_of l.items)

use Rattle.std.proofs.Common.{◌≡◌, drop, ◌+◌}
use Rattle.c_tree.specs.Exits.{continues, continues_in}
use Rattle.c_tree.specs.Trees.{trees_of, sections_of}
use Rattle.flat_form.proofs.exits.+continuing.Given as goal

abbrev pub invariant-add_continues_among-loop-i : goal.invariant-add_continues_among-loop-i
invariant-add_continues_among-loop-i l = l.count + continues (trees_of (drop l.i l.items)) ≡ l.initial.count + continues (trees_of l.items)

abbrev pub invariant-add_continues_in-loop-i : goal.invariant-add_continues_in-loop-i
invariant-add_continues_in-loop-i l = l.count + continues_in (sections_of (drop l.i l.sections)) ≡ l.initial.count + continues_in (sections_of l.sections)

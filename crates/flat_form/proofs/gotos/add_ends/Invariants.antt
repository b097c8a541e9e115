use Rattle.std.proofs.Common.{◌≡◌, ◌+◌, drop}
use Rattle.c_tree.specs.Exits.{breaks_in}
use Rattle.c_tree.specs.Trees.{sections_of}
use Rattle.c_resolved_laws.specs.Counts.{section_ends}
use Rattle.flat_form.proofs.gotos.add_ends.Given as goal

abbrev pub invariant-loop-i : goal.invariant-loop-i
invariant-loop-i l =
    l.count + (section_ends (sections_of (drop l.i l.sections)) + breaks_in (sections_of (drop l.i l.sections)))
    ≡ l.initial.count + (section_ends (sections_of l.sections) + breaks_in (sections_of l.sections))

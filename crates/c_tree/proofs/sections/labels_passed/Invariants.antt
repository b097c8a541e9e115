use Rattle.std.proofs.Common.{◌≡◌, ◌++◌, List}
use Rattle.c_tree.specs.declared.tree.Section.{Section}
use Rattle.c_tree.specs.SectionLabels.{labels_passed, passed_after}
use Rattle.c_tree.proofs.sections.labels_passed.Given as goal

abbrev pub invariant-loop-section : goal.invariant-loop-section
invariant-loop-section l = (rest : List Section) → passed_after l.out rest ≡ labels_passed (l.yielded ++ rest)

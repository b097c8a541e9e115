use Rattle.std.proofs.Common.{◌≡◌, ◌++◌, drop}
use Rattle.c_tree.specs.Cases.{case_numbers}
use Rattle.c_tree.specs.Trees.{sections_of}
use Rattle.inward_moves.proofs.numbers.case_numbers.Given as goal

abbrev pub invariant-loop-section : goal.invariant-loop-section
invariant-loop-section l = l.numbers.items ++ case_numbers l.kind (sections_of (drop l.section-index l.sections)) ≡ case_numbers l.kind (sections_of l.sections)

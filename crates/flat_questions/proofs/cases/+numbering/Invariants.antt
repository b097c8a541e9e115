use Rattle.std.proofs.Common.{◌≡◌, drop, ◌++◌, map}
use Rattle.c_tree.specs.Cases.{case_number}
use Rattle.c_tree.specs.Trees.{trees_of}
use Rattle.flat_laws.specs.Parts.{arrivals, cases_among}
use Rattle.flat_questions.proofs.cases.+numbering.Given as goal

abbrev pub invariant-add_items-loop-i : goal.invariant-add_items-loop-i
invariant-add_items-loop-i l = l.out ++ map (case_number l.kind) (cases_among (arrivals (trees_of (drop l.i l.items)))) ≡ l.initial.out ++
    map (case_number l.kind) (cases_among (arrivals (trees_of l.items)))

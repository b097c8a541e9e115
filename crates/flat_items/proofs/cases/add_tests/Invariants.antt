use Rattle.std.proofs.Common.{◌≡◌, drop}
use Rattle.c_tree.specs.Trees.{trees_of, join}
use Rattle.flat_items.specs.Plans.{number_label}
use Rattle.flat_items.specs.Pieces.{number_tests}
use Rattle.flat_items.proofs.cases.add_tests.Given as goal

abbrev pub invariant-loop-i : goal.invariant-loop-i
invariant-loop-i l = join (trees_of l.out) (number_tests l.cases.kind l.variable (number_label l.plan l.cases) (drop l.i l.numbers)) ≡ join
    (trees_of l.initial.out) (number_tests l.cases.kind l.variable (number_label l.plan l.cases) l.numbers)

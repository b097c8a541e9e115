use Rattle.c_tree.specs.Trees.{trees_of}
use Rattle.c_tree.specs.WellMade.{IsWellMade}
use Rattle.test_moves.proofs.moves.tell_moves.Given as goal

abbrev pub invariant-loop : goal.invariant-loop
invariant-loop l = IsWellMade (trees_of l.body)

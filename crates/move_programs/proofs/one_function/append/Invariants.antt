use Rattle.std.proofs.Common.{◌≡◌, ◌++◌}
use Rattle.std.specs.Vec.Iter.{into_iter_items}
use Rattle.move_programs.proofs.one_function.append.Given as goal

abbrev pub invariant-loop-one : goal.invariant-loop-one
invariant-loop-one l = l.initial.moves ++ into_iter_items l.initial.one-iterator ≡ l.moves ++ into_iter_items l.one-iterator

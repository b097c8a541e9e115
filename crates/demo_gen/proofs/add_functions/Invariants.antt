use Rattle.std.proofs.Common.{◌≡◌, ◌++◌}
use Rattle.demo_gen.specs.DemoText.{functions}
use Rattle.demo_gen.proofs.add_functions.Given as goal

abbrev pub invariant-loop-k : goal.invariant-loop-k
invariant-loop-k l = l.out.items ≡ l.initial.out.items ++ functions l.k

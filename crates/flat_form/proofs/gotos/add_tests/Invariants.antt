use Rattle.std.proofs.Common.{◌≡◌, drop, ◌+◌}
use Rattle.flat_form.specs.Given.{some_in}
use Rattle.flat_form.proofs.gotos.add_tests.Given as goal

abbrev pub invariant-loop-i : goal.invariant-loop-i
invariant-loop-i l = l.count + some_in (drop l.i l.numbers) ≡ l.initial.count + some_in l.numbers

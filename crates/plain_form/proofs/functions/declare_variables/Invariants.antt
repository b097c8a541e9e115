use Rattle.std.proofs.Common.{◌≡◌, ◌++◌, ◌-◌, map}
use Rattle.plain_laws.specs.Plain.{numbers_from, variable_declared}
use Rattle.plain_form.proofs.functions.declare_variables.Given as goal

abbrev pub invariant-loop-k : goal.invariant-loop-k
invariant-loop-k l = l.out ++ map variable_declared (numbers_from l.k (l.to - l.k)) ≡ map variable_declared (numbers_from l.from (l.to - l.from))

use Rattle.std.proofs.Common.{◌≡◌, ◌++◌, ◌-◌, map}
use Rattle.plain_laws.specs.Plain.{numbers_from, guard_declared}
use Rattle.plain_form.proofs.functions.declare_guards.Given as goal

abbrev pub invariant-loop-k : goal.invariant-loop-k
invariant-loop-k l = l.out ++ map guard_declared (numbers_from l.k (l.to - l.k)) ≡ map guard_declared (numbers_from l.from (l.to - l.from))

use Rattle.std.proofs.Common.{◌≡◌, drop}
use Rattle.step_open_calls.specs.Calls.{is_open, expressions_call}
use Rattle.step_open_calls.proofs.expressions.+expression.Given as goal

abbrev pub invariant-in_expressions-loop-e : goal.invariant-in_expressions-loop-e
invariant-in_expressions-loop-e l = expressions_call (is_open l.program) l.all ≡ expressions_call (is_open l.program) (drop l.e-index l.all)

use Rattle.std.proofs.Common.{◌≡◌, drop}
use Rattle.c_lexer.specs.Numbers as numbers
use Rattle.c_lexer.specs.NumberSteps as steps
use Rattle.c_lexer.proofs.number.value_of.Given as goal

-- the value so far, with the digits that are left, is that of all
abbrev pub invariant-loop-digit : goal.invariant-loop-digit
invariant-loop-digit l = steps.value_from (numbers.radix l.base) l.value (drop l.digit-index l.digits) ≡ numbers.value_of (numbers.radix l.base) l.digits

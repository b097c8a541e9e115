use Rattle.std.proofs.Common.{◌≡◌, drop, Some}
use Rattle.c_lexer.specs.MarkSteps as steps
use Rattle.c_lexer.proofs.mark.grown_mark.Given as goal

abbrev pub invariant-loop-byte : goal.invariant-loop-byte
invariant-loop-byte l = steps.grown_mark l.bytes ≡ steps.grown (Some l.mark) (drop l.byte-index l.rest)

use Rattle.std.proofs.Common.{◌≡◌, drop, false}
use Rattle.c_lexer.specs.declared.directive.Before.TheVariants.{Outside}
use Rattle.c_lexer.specs.IncludeSteps as steps
use Rattle.c_lexer.proofs.directive.leaves_open.Given as goal

-- what is left goes on to what the whole line gives
abbrev pub invariant-loop-i : goal.invariant-loop-i
invariant-loop-i l = steps.open_behind (Outside false false) l.line ≡ steps.open_behind l.before (drop l.i l.line)

use Rattle.std.proofs.Common.{drop}
use Rattle.step_interp.specs.Functions.{HasFunctions}
use Rattle.step_interp.proofs.functions.functions_of.Given as goal

abbrev pub invariant-loop-top : goal.invariant-loop-top
invariant-loop-top l = HasFunctions l.program.tops (drop l.top-index l.program.tops) l.functions

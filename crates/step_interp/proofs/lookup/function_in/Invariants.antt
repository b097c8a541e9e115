use Rattle.std.proofs.Common.{◌≡◌, drop}
use Rattle.jump_meaning.specs.Code.{function_in}
use Rattle.step_interp.specs.Lookups.{wanted}
use Rattle.step_interp.proofs.lookup.function_in.Given as goal

abbrev pub invariant-loop-top : goal.invariant-loop-top
invariant-loop-top l = function_in (wanted l.defined) l.name (drop l.top-index l.tops) ≡ function_in (wanted l.defined) l.name l.tops

use Rattle.std.proofs.Common.{ap, ◌∙◌}
use Rattle.step_interp.specs.Functions.{routine_at}
use Rattle.step_interp.proofs.FunctionLemmas.{matched}
use Rattle.step_interp.proofs.functions.routine_of.Goals as goal

pub returns : goal.returns
returns c p h = matched c.args.functions.now c.args.name.now c.get.result p (c.get.ensures.value ∙ ap (routine_at c.args.functions.now) c.as_str.ensures) h

use Rattle.std.proofs.lemmas.Result.{on_ok_weaker}
use Rattle.goto_lowering.proofs.Tops.{gotos_more}
use Rattle.goto_lowering.proofs.program.add_top.Goals as goal

pub returns-clause-gotos : goal.returns-clause-gotos
returns-clause-gotos c = λ old. on_ok_weaker c.push.result (gotos_more _ _ _ _ _ _ old c.in_ok-top.ensures.gotos c.in_ok-out.ensures) c.push.ensures.ok

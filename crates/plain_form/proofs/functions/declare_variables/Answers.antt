use Rattle.plain_laws.specs.Plain.{variable_declared}
use Rattle.plain_form.proofs.LoopLemmas.{declare_step}
use Rattle.plain_form.proofs.functions.declare_variables.Goals as goal

pub loop-k-preserved : goal.loop-k-preserved
loop-k-preserved c =
    declare_step variable_declared c.loop-k.out c.push.new.self _ c.loop-k.k c.args.to c.loop-k-test.true c.in_ok-push.ensures.ok c.loop-k.invariant

use Rattle.break_recovery.proofs.Ways.{front_step, no_step}
use Rattle.break_recovery.proofs.search.next_step.Goals as goal

pub returns-in-Some : goal.returns-in-Some
returns-in-Some c = front_step c.args.way.now c.pop.new.self c.in-Some.step c.in-Some.ensures

pub returns-in-None : goal.returns-in-None
returns-in-None c = no_step c.args.way.now c.pop.new.self c.in-None.ensures.0 c.in-None.ensures.1

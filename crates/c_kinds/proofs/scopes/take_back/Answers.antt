use Rattle.c_kinds.proofs.ScopeLaws.{has_number_in, taken_back}
use Rattle.c_kinds.proofs.scopes.take_back.Goals as goal

pub set_number-requires : goal.set_number-requires
set_number-requires c =
    has_number_in c.loop-step.steps c.pop.new.self c.in-Some.step c.in-Bind.name c.in-Bind.before c.in-Bind._binding c.loop-step.numbers
    c.in-Some.ensures c.in-Bind.is c.loop-step.invariant.2

pub loop-step-preserved-in-Bind : goal.loop-step-preserved-in-Bind
loop-step-preserved-in-Bind c =
    taken_back c.loop-step.steps c.pop.new.self c.args.steps.now c.in-Some.step c.in-Bind.name c.in-Bind.before c.in-Bind._binding c.loop-step.numbers
    c.set_number.new.numbers c.in-Some.ensures c.in-Bind.is c.loop-step.invariant c.set_number.ensures

pub loop-step-preserved : goal.loop-step-preserved
loop-step-preserved c =
    taken_back c.loop-step.steps c.pop.new.self c.args.steps.now c.in-Some.step c.in-Bind.name c.in-Bind.before c.in-Bind._binding c.loop-step.numbers
    c.set_number.new.numbers c.in-Some.ensures c.in-Bind.is c.loop-step.invariant c.set_number.ensures

use Rattle.std.proofs.Common.{sym, subst}
use Rattle.step_tasks.specs.Effects.{ChangesOr}
use Rattle.step_interp.proofs.TaskLemmas.{op_of, control_performed, op_performed, op_trapped}
use Rattle.step_interp.proofs.steps.perform.Goals as goal

pub returns-then-is_control-clause-ok : goal.returns-then-is_control-clause-ok
returns-then-is_control-clause-ok c w h =
    control_performed c.args.machine.now c.control.new.call c.args.task w c.in_ok-control.ensures.function c.in_ok-control.ensures.labels
    c.in_ok-control.ensures.ok h

pub returns-in-Goes-clause-ok : goal.returns-in-Goes-clause-ok
returns-in-Goes-clause-ok c w h =
    let old = c.args.machine.now in
    let o = op_of c.args.task (sym c.if-is_control.ensures) in
    op_performed old c.args.task o.0 c.act.new.store c.act.new.tasks c.act.new.values w o.1 c.in_ok-act.ensures.names
    (subst (λ d. ChangesOr o.0 d old.store c.act.new.store old.call.tasks c.act.new.tasks old.call.values c.act.new.values) c.in-Goes.is
    (c.in_ok-act.ensures.ok o.0 o.1)) h

pub returns-in-Traps-clause-ok : goal.returns-in-Traps-clause-ok
returns-in-Traps-clause-ok c w h =
    let old = c.args.machine.now in
    let o = op_of c.args.task (sym c.if-is_control.ensures) in
    op_trapped old c.args.task o.0 c.in-Traps.trap w o.1
    (subst (λ d. ChangesOr o.0 d old.store c.act.new.store old.call.tasks c.act.new.tasks old.call.values c.act.new.values) c.in-Traps.is
    (c.in_ok-act.ensures.ok o.0 o.1)) h

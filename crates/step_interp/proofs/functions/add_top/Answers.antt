use Rattle.std.proofs.Common.{sym, subst}
use Rattle.std.proofs.lemmas.Result.{on_ok_weaker}
use Rattle.step_interp.specs.Functions.{AddsTop}
use Rattle.step_interp.proofs.FunctionLemmas.{not_function, other_top}
use Rattle.step_interp.proofs.functions.add_top.Goals as goal

pub returns-in-Function : goal.returns-in-Function
returns-in-Function c = on_ok_weaker c.add_function.result (λ a. subst (λ t. AddsTop t c.args.functions.now c.add_function.new.functions)
    (sym c.in-Function.is) a) c.add_function.ensures

pub returns-in_default : goal.returns-in_default
returns-in_default c tops left h = other_top tops left c.args.top.now c.args.functions.now
    (λ p m. not_function p m c.args.top.now left c.in_default.not-Function) h

use Rattle.std.proofs.Common.{sym, subst}
use Rattle.std.proofs.lemmas.Result.{IfOk-weaker}
use Rattle.c_tree.specs.declared.tree.Top.TheVariants as T
use Rattle.move_order_laws.specs.Moved.{MovedTop, mt_moved}
use Rattle.move_programs.proofs.Tops.{stays, no_function}
use Rattle.move_programs.proofs.all_tops.move_top.Goals as goal

pub returns-then-function : goal.returns-then-function
returns-then-function c =
    IfOk-weaker c.move_function.result _ _ (λ ms m. subst (λ t. MovedTop t (T.Function c.move_function.new.function) ms) (sym c.in-Function.is)
    (mt_moved c.if-function.true m)) c.move_function.ensures

pub returns-else-function : goal.returns-else-function
returns-else-function c =
    subst (λ t. MovedTop t (T.Function c.in-Function.function) c.new.result) (sym c.in-Function.is)
    (stays (T.Function c.in-Function.function) c.new.result c.if-function.false c.new.ensures)

pub returns-in_default : goal.returns-in_default
returns-in_default c = stays c.args.top.now c.new-in_default.result (no_function c.args.top.now c.in_default.not-Function) c.new-in_default.ensures

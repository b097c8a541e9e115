use Rattle.std.proofs.Common.{sym, subst}
use Rattle.c_tree.specs.declared.tree.Top.TheVariants as T
use Rattle.tidy_loops.proofs.Results.{if_ok_more}
use Rattle.break_recovery.specs.Ends.{TopTidied}
use Rattle.break_recovery.proofs.Chains.{top_of}
use Rattle.break_recovery.proofs.functions.change_top.Goals as goal

pub returns-in-Function : goal.returns-in-Function
returns-in-Function c =
    if_ok_more c.change_fully.result _ _
    (λ n h. subst (λ z. TopTidied n z (T.Function c.change_fully.new.function)) (sym c.in-Function.is)
    (top_of n c.in-Function.function c.change_fully.new.function h))
    c.change_fully.ensures

use Rattle.std.proofs.Common.{eqb, sym, ap, ◌∙◌}
use Rattle.c_tree.specs.declared.tree.Item.{Arm}
use Rattle.c_tree.specs.Trees.{tree_of}
use Rattle.move_laws.specs.Drops.{dropped_item}
use Rattle.guard_edits.specs.Goes.{goes}
use Rattle.guard_edits.proofs.GuardGone.{arm_evaluates, arm_stays, arm_none}
use Rattle.guard_edits.proofs.drops.disarmed.Goals as goal

pub returns-then-label-at : goal.returns-then-label-at
returns-then-label-at c =
    arm_evaluates c.args.label c.args.at c.in-Some.e c.if-label-at.true
    ∙ ap (λ o. dropped_item (eqb c.args.label) (tree_of (Arm c.args.at o))) (sym c.in-Some.is)

pub returns-else-label-at : goal.returns-else-label-at
returns-else-label-at c =
    arm_stays c.args.label c.args.at c.in-Some.e c.if-label-at.false
    ∙ ap (λ o. dropped_item (eqb c.args.label) (tree_of (Arm c.args.at o))) (sym c.in-Some.is)

pub returns-in-None : goal.returns-in-None
returns-in-None c =
    arm_none c.args.label c.args.at (ap (λ o. goes c.args.label (Arm c.args.at o)) (sym c.in-None.is) ∙ c.requires)
    ∙ ap (λ o. dropped_item (eqb c.args.label) (tree_of (Arm c.args.at o))) (sym c.in-None.is)

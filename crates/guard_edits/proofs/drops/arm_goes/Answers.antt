use Rattle.std.proofs.Common.{sym, ap, ◌∙◌}
use Rattle.c_tree.specs.declared.tree.Item.TheOpen as O
use Rattle.guard_edits.specs.Goes.{goes_F}
use Rattle.guard_edits.proofs.GuardGone.{goes-Arm}
use Rattle.guard_edits.proofs.drops.arm_goes.Goals as goal

pub returns-in-Some : goal.returns-in-Some
returns-in-Some c = sym (goes-Arm c.args.label c.args.at c.args.e.now ∙ ap (λ o. goes_F c.args.label (O.Arm c.args.at o)) c.in-Some.is)

pub returns-in-None : goal.returns-in-None
returns-in-None c = sym (goes-Arm c.args.label c.args.at c.args.e.now ∙ ap (λ o. goes_F c.args.label (O.Arm c.args.at o)) c.in-None.is)

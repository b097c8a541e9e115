use Rattle.std.proofs.Common.{sym, ap, ◌∙◌}
use Rattle.c_tree.specs.Views.{tree_at}
use Rattle.break_recovery.specs.Steady.{both, item_turned}
use Rattle.break_recovery.proofs.ExitsTold.{none_turned}
use Rattle.break_recovery.proofs.here.turned_by.Goals as goal

pub returns-then-exits-eq0 : goal.returns-then-exits-eq0
returns-then-exits-eq0 c =
    c.no_slot.ensures ∙ sym (none_turned c.args.change c.args.exits (tree_at c.args.item.now) c.if-exits-eq0.true c.requires)

pub returns : goal.returns
returns c =
    c.in_ok-item_turned.ensures ∙ ap (λ z. both z (item_turned c.slot_of.result (tree_at c.args.item.now))) c.no_slot-turned.ensures
    ∙ ap (λ g. item_turned g (tree_at c.args.item.now)) c.slot_of.ensures

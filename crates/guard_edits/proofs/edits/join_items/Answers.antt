use Rattle.guard_edits.proofs.Pairs.{pair_joined}
use Rattle.guard_edits.proofs.edits.join_items.Goals as goal

pub returns-clause-ok : goal.returns-clause-ok
returns-clause-ok c =
    pair_joined c.args.list.now c.remove-next.new.self c.args.at c.at_mut.result.now c.remove-next.result c.join_next.new.item
    c.remove-next.ensures.item c.remove-next.ensures.rest c.at_mut.ensures.value c.join_next.ensures

use Rattle.std.proofs.Common.{sym, subst, ◌∙◌}
use Rattle.guard_edits.specs.Built.{IsJoined}
use Rattle.guard_edits.proofs.Pairs.{join_is}
use Rattle.guard_edits.proofs.joining.join_next.Goals as goal

pub returns : goal.returns
returns c =
    let p = c.if_parts-test.result in
    let q = c.if_parts-other.result in
    subst (λ z. IsJoined c.args.item.now c.args.next z) (sym c.replace-2.ensures.after)
    (join_is c.args.item.now c.args.next p.0 q.0 p.1 p.2 q.1 q.2 c.both.result (sym c.replace.ensures.value ∙ c.if_parts-test.ensures)
    c.if_parts-other.ensures c.both.ensures)

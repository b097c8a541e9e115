use Rattle.std.proofs.Common.{sym, ◌∙◌, true≢false}
use Rattle.move_replay.proofs.Leaping.{other_kind}
use Rattle.move_replay.proofs.one_move.move_leap.Goals as goal

pub returns-clause-no : goal.returns-clause-no
returns-clause-no c = λ e new h.
    let k = other_kind c.args.labels.now c.args.step.now c.args.body.now c.move_near.new.body new c.in-Some.label c.in_ok-kind.field-0.kind
    c.in_ok-kind.field-0.to c.requires c.in-Some.ensures c.in_ok-kind.ensures.moves h in
    true≢false (sym (c.same_kind.ensures.1 k) ∙ e)

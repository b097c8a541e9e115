use Rattle.std.proofs.Common.{arith}
use Rattle.std.proofs.lemmas.Result.{IfOk-weaker}
use Rattle.label_offsets.proofs.PlaceLaws.{none_before}
use Rattle.label_offsets.proofs.search.place_before.Goals as goal

pub returns-clause-none : goal.returns-clause-none
returns-clause-none c = IfOk-weaker c.place_at.result _ _ (λ r h. none_before c.args.label c.args.items.now c.args.end r
    (omega (arith, c.if-end-eq0.false)) h) c.place_at.ensures.none

use Rattle.std.proofs.lemmas.Result.{IfOk-weaker}
use Rattle.label_offsets.proofs.PlaceLaws.{place_found, no_place}
use Rattle.label_offsets.proofs.search.place_at.Goals as goal

pub returns-clause-found : goal.returns-clause-found
returns-clause-found c = IfOk-weaker c.first_of.result _ _ (λ r h. place_found c.args.label c.args.items.now c.args.at c.index-items-at.result r
    c.if-at-items.false c.index-items-at.is h) c.first_of.ensures

pub returns-clause-none : goal.returns-clause-none
returns-clause-none c = IfOk-weaker c.first_of.result _ _ (λ r h. no_place c.args.label c.args.items.now c.args.at c.index-items-at.result r
    c.if-at-items.false c.index-items-at.is h) c.first_of.ensures

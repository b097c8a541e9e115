use Rattle.std.proofs.Common.{◌≡◌, SFits, Some, None, rules, sym, ap, ◌∙◌}
use Rattle.std.proofs.lemmas.Int.{to_z-of_z}
use Rattle.std.specs.BTreeMap.{get, get_by}
use Rattle.std.specs.Int.{w128}
use Rattle.std.specs.Option.{unwrap_or}
use Rattle.std.specs.Ordering.{int_cmp}
use Rattle.flat_items.specs.Places.{place_at}
use Rattle.flat_items.proofs.places.place_of.Goals as goal

pub returns-in-Some-get : goal.returns-in-Some-get
returns-in-Some-get c =
    let p = c.args.places.now in
    let fits : SFits w128 c.in-Some.n = search rules in
    let found : Some c.in-Some-get.place.now ≡ get int_cmp p.table c.in-Some.n =
    c.in-Some-get.ensures.value ∙ ap (λ z. get_by (int_cmp z) p.table) (to_z-of_z w128 c.in-Some.n fits) in
    ap (λ o. unwrap_or o p.behind) found ∙ sym (ap (place_at p) c.in-Some.is)

pub returns-in-None-get : goal.returns-in-None-get
returns-in-None-get c =
    let p = c.args.places.now in
    let fits : SFits w128 c.in-Some.n = search rules in
    let found : None ≡ get int_cmp p.table c.in-Some.n = c.in-None-get.ensures.value ∙ ap (λ z. get_by (int_cmp z) p.table) (to_z-of_z w128 c.in-Some.n fits) in
    ap (λ o. unwrap_or o p.behind) found ∙ sym (ap (place_at p) c.in-Some.is)

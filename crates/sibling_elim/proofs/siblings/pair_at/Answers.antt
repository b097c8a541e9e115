use Rattle.std.proofs.Common.{Some, sym, ap, ◌∙◌}
use Rattle.c_tree.specs.Paths.{list_at}
use Rattle.sibling_elim.proofs.PairLemmas.{no_place, place_is}
use Rattle.sibling_elim.proofs.siblings.pair_at.Goals as goal

pub unreachable-requires-in_default-land_beside : goal.unreachable-requires-in_default-land_beside
unreachable-requires-in_default-land_beside c =
    no_place c.args.body.now c.args.at.now c.requires c.in-Some.label c.as_slice-2.result.now c.in-Some.ensures
    (ap Some c.as_slice-2.ensures.value ∙ c.in-Some-find_list.ensures ∙ ap (list_at c.args.body.now) c.as_slice.ensures.value)
    (sym c.land_beside.ensures ∙ c.in_default-land_beside.is)

pub returns-clause-applies : goal.returns-clause-applies
returns-clause-applies c =
    place_is c.args.body.now c.args.at.now c.requires c.in-Some.label c.as_slice-2.result.now c.in-Some-land_beside.land c.in-Some.ensures
    (ap Some c.as_slice-2.ensures.value ∙ c.in-Some-find_list.ensures ∙ ap (list_at c.args.body.now) c.as_slice.ensures.value)
    (sym c.land_beside.ensures ∙ c.in-Some-land_beside.is)

use Rattle.std.proofs.Common.{refl, sym, ap, ◌∙◌, slice_get}
use Rattle.std.proofs.lemmas.Option.{slice_get_read}
use Rattle.guard_edits.proofs.Places.{set_shortened, none_shortened, not_short}
use Rattle.guard_edits.proofs.edits.shorten_item.Goals as goal

pub returns-in-Some-clause-ok : goal.returns-in-Some-clause-ok
returns-in-Some-clause-ok c = set_shortened c.args.list.now c.args.at c.at_mut.result.now c.shorten.new.item c.at_mut.ensures.value c.shorten.ensures

pub returns-in-None-clause-ok : goal.returns-in-None-clause-ok
returns-in-None-clause-ok c =
    let x = c.index-as_slice-at.result in
    none_shortened c.args.list.now c.args.at x
    (ap (λ z. slice_get z c.args.at) (sym c.as_slice.ensures.value) ∙ slice_get_read c.as_slice.result.now _ c.args.at x refl
    (rw c.as_slice.ensures.value c.requires) c.index-as_slice-at.is)
    (not_short x (sym c.in_ok-found.ensures ∙ c.in-None.is))

use Rattle.std.proofs.Common.{◌≡◌, Some, rules, to_z, of_z, sym, ap, ◌∙◌}
use Rattle.std.specs.Int.{w128}
use Rattle.c_tree.specs.Paths.{list_at}
use Rattle.c_tree.specs.WellMade.{HasSelectorKind, HasCases}
use Rattle.inward_moves.specs.Entering.{LeadsTo}
use Rattle.inward_moves.proofs.SpotLemmas.{item_read}
use Rattle.label_offsets.proofs.ItemFacts.{holds_at}
use Rattle.inward_moves.proofs.WayLemmas.{no_target, target_within, goes_in}
use Rattle.inward_moves.proofs.inward.way_at.Goals as goal

pub unreachable-requires-in_default-target_after : goal.unreachable-requires-in_default-target_after
unreachable-requires-in_default-target_after c =
    no_target c.args.body.now c.args.at.now c.requires c.in-Some.label c.as_slice-items.result.now c.in-Some.ensures
    (ap Some c.as_slice-items.ensures.value ∙ c.in-Some-find_list.ensures ∙ ap (list_at c.args.body.now) c.as_slice.ensures.value)
    c.in_default-target_after.ensures.none

pub bounds-items-target : goal.bounds-items-target
bounds-items-target c =
    let t = c.in-Some-target_after.target in
    target_within c.in-Some.label t.branch c.as_slice-items.result.now t.place c.in-Some-target_after.ensures.leads

pub number_for-requires-clause-kind : goal.number_for-requires-clause-kind
number_for-requires-clause-kind c =
    let t = c.in-Some-target_after.target in
    let items = c.as_slice-items.result.now in
    let x = c.index-items-target.result in
    holds_at HasSelectorKind c.args.body.now c.args.at.now.steps items t.place x
    (sym (ap Some c.as_slice-items.ensures.value ∙ c.in-Some-find_list.ensures ∙ ap (list_at c.args.body.now) c.as_slice.ensures.value))
    (item_read items t.place x (LeadsTo c.in-Some.label t.branch) c.in-Some-target_after.ensures.leads c.index-items-target.is) c.requires.well_made.selectors

pub number_for-requires-clause-cases : goal.number_for-requires-clause-cases
number_for-requires-clause-cases c =
    let t = c.in-Some-target_after.target in
    let items = c.as_slice-items.result.now in
    let x = c.index-items-target.result in
    holds_at HasCases c.args.body.now c.args.at.now.steps items t.place x
    (sym (ap Some c.as_slice-items.ensures.value ∙ c.in-Some-find_list.ensures ∙ ap (list_at c.args.body.now) c.as_slice.ensures.value))
    (item_read items t.place x (LeadsTo c.in-Some.label t.branch) c.in-Some-target_after.ensures.leads c.index-items-target.is) c.requires.well_made.cases

pub returns : goal.returns
returns c =
    let t = c.in-Some-target_after.target in
    let items = c.as_slice-items.result.now in
    let x = c.index-items-target.result in
    let n = c.in_ok-number.number in
    let same : to_z w128 (of_z w128 n) ≡ n = search rules in
    rw same
    (goes_in c.args.body.now c.args.at.now c.requires c.in-Some.label n items t.place t.branch x c.in-Some.ensures
    (ap Some c.as_slice-items.ensures.value ∙ c.in-Some-find_list.ensures ∙ ap (list_at c.args.body.now) c.as_slice.ensures.value)
    c.in-Some-target_after.ensures.after
    c.in-Some-target_after.ensures.leads
    (item_read items t.place x (LeadsTo c.in-Some.label t.branch) c.in-Some-target_after.ensures.leads c.index-items-target.is) c.in_ok-number.ensures)

use Rattle.std.proofs.Common.{ap, ◌∙◌}
use Rattle.c_tree.specs.Inward.{moved_in_at}
use Rattle.c_tree.specs.Trees.{trees_of}
use Rattle.c_tree.proofs.RuleChanges.{moves_in_changed}
use Rattle.c_tree.proofs.WellMoved.{well_moved}
use Rattle.move_laws.proofs.Laws.{behaviour_laws}
use Rattle.inward_moves.proofs.WayLemmas.{path_is}
use Rattle.inward_moves.proofs.inward.move_in.Goals as goal

pub returns-clause-ok : goal.returns-clause-ok
returns-clause-ok c =
    let w = c.in_ok-way.way in
    let at = c.args.at.now in
    let old = c.args.body.now in
    record {
      label = w.label;
      number = w.number;
      place = w.place;
      branch = w.branch;
      moves = record {
        applies = c.in_ok-way.ensures;
        body = c.in_ok-move_in_in.ensures.ok ∙ ap (λ s. moved_in_at w.label w.number at.item w.place w.branch s old) c.as_slice-steps.ensures.value;
        path = path_is old at w.label w.number w.place w.branch c.place_after.result c.as_slice-steps.result.now c.in_ok-to.to c.in_ok-way.ensures
            c.place_after.ensures c.as_slice-steps.ensures.value c.in_ok-to.ensures;
      };
    }

pub returns-clause-well_made : goal.returns-clause-well_made
returns-clause-well_made c =
    let w = c.in_ok-way.way in
    let at = c.args.at.now in
    let old = c.args.body.now in
    let new = c.move_in_in.new.body in
    well_moved (trees_of old) (trees_of new)
    (moves_in_changed w.label w.number at.item w.place w.branch at.steps old new c.in_ok-to.to (record {
      applies = c.in_ok-way.ensures;
      body = c.in_ok-move_in_in.ensures.ok ∙ ap (λ s. moved_in_at w.label w.number at.item w.place w.branch s old) c.as_slice-steps.ensures.value;
      path = path_is old at w.label w.number w.place w.branch c.place_after.result c.as_slice-steps.result.now c.in_ok-to.to c.in_ok-way.ensures
          c.place_after.ensures c.as_slice-steps.ensures.value c.in_ok-to.ensures;
    }))
    c.requires.well_made

pub returns-clause-behaviour : goal.returns-clause-behaviour
returns-clause-behaviour c =
    let w = c.in_ok-way.way in
    let at = c.args.at.now in
    let old = c.args.body.now in
    let new = c.move_in_in.new.body in
    behaviour_laws.moves_in w.label w.number at.item w.place w.branch at.steps old new c.in_ok-to.to (record {
      applies = c.in_ok-way.ensures;
      body = c.in_ok-move_in_in.ensures.ok ∙ ap (λ s. moved_in_at w.label w.number at.item w.place w.branch s old) c.as_slice-steps.ensures.value;
      path = path_is old at w.label w.number w.place w.branch c.place_after.result c.as_slice-steps.result.now c.in_ok-to.to c.in_ok-way.ensures
          c.place_after.ensures c.as_slice-steps.ensures.value c.in_ok-to.ensures;
    })
    c.requires.well_made

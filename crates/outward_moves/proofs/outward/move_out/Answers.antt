use Rattle.std.proofs.Common.{sym, ◌∙◌}
use Rattle.c_tree.specs.Trees.{trees_of}
use Rattle.c_tree.proofs.RuleChanges.{moves_out_changed}
use Rattle.c_tree.proofs.WellMoved.{well_moved}
use Rattle.move_laws.proofs.Laws.{behaviour_laws}
use Rattle.outward_moves.proofs.OutLemmas.{found_applies}
use Rattle.outward_moves.proofs.outward.move_out.Goals as goal

pub move_out_in-requires : goal.move_out_in-requires
move_out_in-requires c =
    found_applies c.args.body.now c.args.at.now c.requires c.in-Some.label c.without_last.result.0.now c.without_last.result.1 c.in-Some.ensures
    (sym c.as_slice.ensures.value ∙ c.without_last.ensures)

pub returns-clause-ok : goal.returns-clause-ok
returns-clause-ok c =
    let outer = c.without_last.result.0.now in
    let last = c.without_last.result.1 in
    let steps = sym c.as_slice.ensures.value ∙ c.without_last.ensures in
    record {
      label = c.in-Some.label;
      outer = outer;
      last = last;
      steps = steps;
      moves = record {
        applies = found_applies c.args.body.now c.args.at.now c.requires c.in-Some.label outer last c.in-Some.ensures steps;
        body = c.in_ok-move_out_in.ensures.ok;
        path = c.in_ok-to.ensures;
      };
    }

pub returns-clause-well_made : goal.returns-clause-well_made
returns-clause-well_made c =
    let old = c.args.body.now in
    let new = c.move_out_in.new.body in
    let outer = c.without_last.result.0.now in
    let last = c.without_last.result.1 in
    let steps = sym c.as_slice.ensures.value ∙ c.without_last.ensures in
    well_moved (trees_of old) (trees_of new)
    (moves_out_changed c.in-Some.label outer last c.args.at.now.item old new c.in_ok-to.to (record {
      applies = found_applies old c.args.at.now c.requires c.in-Some.label outer last c.in-Some.ensures steps;
      body = c.in_ok-move_out_in.ensures.ok;
      path = c.in_ok-to.ensures;
    }))

pub returns-clause-behaviour : goal.returns-clause-behaviour
returns-clause-behaviour c =
    let old = c.args.body.now in
    let new = c.move_out_in.new.body in
    let outer = c.without_last.result.0.now in
    let last = c.without_last.result.1 in
    let steps = sym c.as_slice.ensures.value ∙ c.without_last.ensures in
    behaviour_laws.moves_out c.in-Some.label outer last c.args.at.now.item old new c.in_ok-to.to (record {
      applies = found_applies old c.args.at.now c.requires c.in-Some.label outer last c.in-Some.ensures steps;
      body = c.in_ok-move_out_in.ensures.ok;
      path = c.in_ok-to.ensures;
    })

use Rattle.std.proofs.Common.{refl, ap, ◌∙◌}
use Rattle.c_tree.specs.Lift.{lifted_at, path_lifted}
use Rattle.c_tree.specs.Trees.{trees_of}
use Rattle.c_tree.proofs.RuleChanges.{lifts_changed}
use Rattle.c_tree.proofs.WellMoved.{well_moved}
use Rattle.move_laws.proofs.Laws.{behaviour_laws}
use Rattle.goto_lifting.proofs.lifting.lift.Goals as goal

pub returns-clause-well_made : goal.returns-clause-well_made
returns-clause-well_made c =
    let old = c.args.body.now in
    let new = c.lift_in.new.body in
    let f = c.found_at-found.result in
    let steps = c.args.at.now.steps in
    well_moved (trees_of old) (trees_of new)
    (lifts_changed f.label c.args.at.now.item f.place steps old new (path_lifted f.place steps) (record {
      applies = c.found_at-found.ensures;
      body = c.in_ok-lift_in.ensures.ok ∙ ap (λ s. lifted_at f.label c.args.at.now.item f.place s old) c.as_slice-steps.ensures.value;
      path = refl;
    }))

pub returns-clause-behaviour : goal.returns-clause-behaviour
returns-clause-behaviour c =
    let old = c.args.body.now in
    let new = c.lift_in.new.body in
    let f = c.found_at-found.result in
    let steps = c.args.at.now.steps in
    behaviour_laws.lifts f.label c.args.at.now.item f.place steps old new (path_lifted f.place steps) (record {
      applies = c.found_at-found.ensures;
      body = c.in_ok-lift_in.ensures.ok ∙ ap (λ s. lifted_at f.label c.args.at.now.item f.place s old) c.as_slice-steps.ensures.value;
      path = refl;
    })

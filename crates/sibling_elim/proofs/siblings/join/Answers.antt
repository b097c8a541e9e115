use Rattle.std.proofs.Common.{ap, ◌∙◌}
use Rattle.std.proofs.lemmas.Result.{on_ok_weaker}
use Rattle.c_tree.specs.Join.{joined_at}
use Rattle.c_tree.specs.Trees.{trees_of}
use Rattle.c_tree.proofs.RuleChanges.{joins_changed}
use Rattle.c_tree.proofs.WellMoved.{well_moved}
use Rattle.move_laws.proofs.Laws.{behaviour_laws}
use Rattle.sibling_elim.proofs.siblings.join.Goals as goal

pub returns-clause-well_made : goal.returns-clause-well_made
returns-clause-well_made c =
    let old = c.args.body.now in
    let new = c.join_in.new.body in
    let p = c.pair_at-pair.result in
    on_ok_weaker _ (λ h. well_moved (trees_of old) (trees_of new)
    (joins_changed p.label c.args.at.now.item p.land c.args.at.now.steps old new
    (record { applies = c.pair_at-pair.ensures.applies; body = h ∙ ap (λ s. joined_at p.label c.args.at.now.item p.land s old) c.as_slice.ensures.value })))
    c.join_in.ensures.ok

pub returns-clause-behaviour : goal.returns-clause-behaviour
returns-clause-behaviour c =
    let old = c.args.body.now in
    let new = c.join_in.new.body in
    let p = c.pair_at-pair.result in
    on_ok_weaker _ (λ h. behaviour_laws.joins p.label c.args.at.now.item p.land c.args.at.now.steps old new
    (record { applies = c.pair_at-pair.ensures.applies; body = h ∙ ap (λ s. joined_at p.label c.args.at.now.item p.land s old) c.as_slice.ensures.value }))
    c.join_in.ensures.ok

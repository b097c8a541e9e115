use Rattle.move_bodies.proofs.Applied.{rule_by}
use Rattle.move_bodies.proofs.one_move.move_near.Goals as goal

pub move_by-requires-clause-rule : goal.move_by-requires-clause-rule
move_by-requires-clause-rule c = rule_by c.args.body.now c.requires.well_made c.args.at.now c.in_ok-place.place c.args.label c.relation-rule.result
    c.requires.label c.in_ok-place.ensures c.relation-rule.ensures.value

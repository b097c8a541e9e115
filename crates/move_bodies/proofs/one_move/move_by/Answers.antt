use Rattle.std.proofs.Common.{subst}
use Rattle.label_offsets.specs.Choice.{IsRuleAt}
use Rattle.move_bodies.proofs.Applied.{held_after, moved_out}
use Rattle.move_bodies.proofs.one_move.move_by.Goals as goal

pub move_in-requires : goal.move_in-requires
move_in-requires c = held_after c.args.body.now c.args.at.now c.requires.well_made
    (subst (λ r. IsRuleAt r c.args.body.now c.args.at.now) c.in-InwardOf.is c.requires.rule)

pub returns-in_ok-to-in-Outward-clause-moves : goal.returns-in_ok-to-in-Outward-clause-moves
returns-in_ok-to-in-Outward-clause-moves c = moved_out c.args.body.now c.move_out.new.body c.args.at.now c.args.label c.requires.label
    c.in_ok-to-in-Outward.to c.in_ok-to-in-Outward.ensures.ok

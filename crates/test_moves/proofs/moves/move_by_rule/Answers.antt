use Rattle.test_moves.proofs.Rules.{goes_in}
use Rattle.test_moves.proofs.moves.move_by_rule.Goals as goal

pub move_in-requires : goal.move_in-requires
move_in-requires c = goes_in c.args.body.now c.args.at.now c.requires.well_made (rw c.in-InwardOf.is at c.in_ok-rule_at.ensures)

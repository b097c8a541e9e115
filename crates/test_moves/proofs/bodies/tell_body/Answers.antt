use Rattle.test_moves.proofs.Ready.{of_body}
use Rattle.test_moves.proofs.bodies.tell_body.Goals as goal

pub tell_moves-requires : goal.tell_moves-requires
tell_moves-requires c = of_body c.args.function.now c.in-Moves-Some.body c.in-Moves-Some.is-1 c.requires

pub tell_report-requires : goal.tell_report-requires
tell_report-requires c = of_body c.args.function.now c.in-Report-Some.body c.in-Report-Some.is-1 c.requires

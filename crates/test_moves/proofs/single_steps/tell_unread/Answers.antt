use Rattle.test_moves.proofs.Ready.{of_body}
use Rattle.test_moves.proofs.single_steps.tell_unread.Goals as goal

pub tell_derived-requires : goal.tell_derived-requires
tell_derived-requires c = of_body c.args.function.now c.in-Some.body c.in-Some.is c.requires

use Rattle.move_replay.proofs.MovesMade.{flat_leapless}
use Rattle.move_replay.proofs.all_moves.move_top.Goals as goal

pub move_in-requires-clause-leapless : goal.move_in-requires-clause-leapless
move_in-requires-clause-leapless c = λ e. flat_leapless c.args.step.now.function c.args.top.now c.in-Function.function (c.requires.leapless e)
    c.requires.flat c.in-Function.is

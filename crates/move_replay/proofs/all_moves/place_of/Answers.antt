use Rattle.std.proofs.Common.{Some, None, sym, ◌∙◌}
use Rattle.move_replay.proofs.Placing.{placed}
use Rattle.move_replay.proofs.all_moves.place_of.Goals as goal

pub returns-in-Some : goal.returns-in-Some
returns-in-Some c ts h = placed c.args.name.now ts (Some c.in-Some.at) (sym c.in-Some.is ∙ c.find.ensures ts h)

pub returns-in-None : goal.returns-in-None
returns-in-None c ts h = placed c.args.name.now ts None (sym c.in-None.is ∙ c.find.ensures ts h)

use Rattle.std.proofs.Common.{inl, ap, ◌∙◌, Err}
use Rattle.move_replay.proofs.Outcomes.{err_same}
use Rattle.move_replay.proofs.replaying.replay_report.Goals as goal

pub returns-in-Err-clause-refused : goal.returns-in-Err-clause-refused
returns-in-Err-clause-refused c = λ refusal e. inl (c.read_moves.ensures.refused refusal (c.in-Err.is ∙ ap Err (err_same _ _ _ e)))

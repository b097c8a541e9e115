use Rattle.std.proofs.Common.{inl}
use Rattle.regoto.proofs.ReplayOutcomes.{replays_since, read_completes, unread_completes}
use Rattle.regoto.proofs.replaying.replay_file.Goals as goal

pub returns-in-Ok-clause-replays : goal.returns-in-Ok-clause-replays
returns-in-Ok-clause-replays g c = inl record {
  program = c.in-Ok.program;
  text = c.in-Ok.ensures.read;
  next = replays_since _ c.args.report.now _ _ _ _ c.in-Ok.ensures.grows _ _ c.args.to.now _ _ _ c.replay_in.result
      (rw (c.in-Ok.ensures.silent, c.in-Ok.ensures.kept, c.in-Ok.ensures.writes) at c.replay_in.ensures.replays);
}

pub returns-in-Ok-clause-completes : goal.returns-in-Ok-clause-completes
returns-in-Ok-clause-completes g c =
    read_completes g.R.Replayer.reads g.R.Replayer.refuses g.R.Replayer.accepts g.met.R.Replayer.one g.met.R.Replayer.apart
    c.args.from.now c.args.report.now _ (g.H.Shelf.reads c.args.shelf.now) (g.H.Shelf.reads c.program_read.new.shelf)
    (g.H.Shelf.reads c.replay_in.new.shelf) _ _ c.in-Ok.program c.replay_in.result c.in-Ok.ensures.grows c.in-Ok.ensures.read
    (rw (c.in-Ok.ensures.kept, c.in-Ok.ensures.writes) at c.replay_in.ensures.completes)

pub returns-in-Err-clause-completes : goal.returns-in-Err-clause-completes
returns-in-Err-clause-completes g c =
    unread_completes g.R.Replayer.reads g.R.Replayer.refuses g.R.Replayer.accepts g.met.R.Replayer.one g.met.R.Replayer.apart
    _ c.args.from.now c.args.report.now _ _ _ _ _ c.in-Err.status c.in-Err.ensures.unread

use Rattle.std.proofs.Common.{inl}
use Rattle.regoto.proofs.ReplayOutcomes.{report_completes}
use Rattle.regoto.proofs.replaying.replay_in.Goals as goal

pub returns-in-Ok-clause-replays : goal.returns-in-Ok-clause-replays
returns-in-Ok-clause-replays g c = inl record {
  made = c.in-Ok.made;
  gives_it = c.in-Ok.ensures.given;
  left = rw (c.in-Ok.ensures.silent, c.in-Ok.ensures.kept, c.in-Ok.ensures.writes) at c.write_translation.ensures.puts;
}

pub returns-in-Err-clause-completes : goal.returns-in-Err-clause-completes
returns-in-Err-clause-completes g c =
    report_completes (g.R.Replayer.accepts c.args.program) (g.R.Replayer.rejects c.args.program)
    (λ t r. g.met.R.Replayer.report_apart c.args.program t r c.requires)
    _ c.args.report.now _ _ _ _ _ c.in-Err.status c.in-Err.ensures.unreplayed

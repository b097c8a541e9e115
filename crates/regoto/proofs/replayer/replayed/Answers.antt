use Rattle.std.proofs.Common.{ℕ, List, rules}
use Rattle.cmd_words.specs.Lines.{Tells}
use Rattle.regoto.proofs.ReplayOutcomes.{untaken_report}
use Rattle.regoto.proofs.replayer.replayed.Goals as goal

pub returns-clause-unreplayed : goal.returns-clause-unreplayed
returns-clause-unreplayed g c = rw c.in_ok-text.ensures.silent at c.tell.ensures

pub returns-in_err-text-clause-unreplayed : goal.returns-in_err-text-clause-unreplayed
returns-in_err-text-clause-unreplayed g c =
    let said : List ℕ → Type 0 = λ line. Tells (g.E.Sink.written c.args.err.now) (g.E.Sink.written c.take_text.new.err)
    (g.E.Sink.faults c.args.err.now) (g.E.Sink.faults c.take_text.new.err) line in
    search (
      rules,
      untaken_report said (g.R.Replayer.rejects c.args.program) c.args.report.now (g.H.Shelf.held c.args.shelf.now)
          (g.H.Shelf.reads c.args.shelf.now) (g.H.Shelf.reads c.take_text.new.shelf) c.in_err-text.field-0.0,
    )

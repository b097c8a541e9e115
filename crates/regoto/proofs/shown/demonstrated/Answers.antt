use Rattle.std.proofs.Common.{◌∙◌}
use Rattle.std.proofs.lemmas.Result.{err_from_is_err_and}
use Rattle.cmd_words.specs.Lines.{Tells}
use Rattle.regoto.proofs.DemoUnfit.{unfit_unshown}
use Rattle.regoto.proofs.shown.demonstrated.Goals as goal

pub returns-in_err-source-clause-unshown : goal.returns-in_err-source-clause-unshown
returns-in_err-source-clause-unshown g c =
    let p = err_from_is_err_and c.from_residual.result c.from_residual.ensures.1 in
    rw (p.1, p.2) (unfit_unshown
    (λ line. Tells (g.E.Sink.written c.args.err.now) (g.E.Sink.written c.read_source.new.err) (g.E.Sink.faults c.args.err.now)
    (g.E.Sink.faults c.read_source.new.err) line)
    c.args.n c.as_slice.result.now c.in_err-source.field-0.0 (c.as_slice.ensures.value ∙ c.in-Ok.ensures) c.in_err-source.ensures.unfit)

pub returns-clause-unshown : goal.returns-clause-unshown
returns-clause-unshown g c = rw c.in_ok-source.ensures.silent at (c.tell_stop.ensures c.args.n c.in-Err-show_both.ensures.stops)

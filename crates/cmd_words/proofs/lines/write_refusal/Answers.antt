use Rattle.cmd_words.specs.Lines.{place_and_reason}
use Rattle.cmd_words.proofs.Told.{writes_then, broke_before}
use Rattle.cmd_words.proofs.lines.write_refusal.Goals as goal

pub returns-then-put : goal.returns-then-put
returns-then-put g c =
    writes_then _ (g.E.Sink.written c.put.new.err) _ _ (g.E.Sink.faults c.put.new.err) _ c.args.file.now (place_and_reason c.args.refusal.now)
    c.write_reason.result c.if-put.ensures c.write_reason.ensures

pub returns-else-put : goal.returns-else-put
returns-else-put g c = broke_before _ _ _ _ c.args.file.now (place_and_reason c.args.refusal.now) c.put.result c.if-put.false c.put.ensures

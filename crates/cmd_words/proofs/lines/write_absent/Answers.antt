use Rattle.std.proofs.Common.{◌++◌, codes}
use Rattle.cmd_words.proofs.Told.{writes_then, broke_before}
use Rattle.cmd_words.proofs.lines.write_absent.Goals as goal

pub returns-then-put : goal.returns-then-put
returns-then-put g c =
    writes_then _ (g.E.Sink.written c.put.new.err) _ _ (g.E.Sink.faults c.put.new.err) _ (codes "regoto: no file ") (c.args.file.now ++ codes "\n")
    c.put_line_end.result c.if-put.ensures c.put_line_end.ensures

pub returns-else-put : goal.returns-else-put
returns-else-put g c = broke_before _ _ _ _ (codes "regoto: no file ") (c.args.file.now ++ codes "\n") c.put.result c.if-put.false c.put.ensures

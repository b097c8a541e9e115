use Rattle.regoto.proofs.Rewritten.{report_law}
use Rattle.regoto.proofs.report_laws.report_law.Goals as goal

pub returns : goal.returns
returns c = report_law

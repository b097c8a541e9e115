use Rattle.report_moves.proofs.Reports.{report_laws}
use Rattle.report_moves.proofs.report_laws.Goals as goal

pub returns : goal.returns
returns c = report_laws

use Rattle.lower_result_laws.proofs.LoweredText.{lowered_resolved_laws}
use Rattle.lower_result_laws.proofs.lowered_resolved_laws.Goals as goal

pub returns : goal.returns
returns c = lowered_resolved_laws

use Rattle.lower_laws.proofs.LoweredPrograms.{lowered_laws}
use Rattle.lower_laws.proofs.lowered_laws.Goals as goal

pub returns : goal.returns
returns c = lowered_laws

use Rattle.restructure_laws.proofs.WholeIdempotentPrograms.{settled_laws}
use Rattle.restructure_laws.proofs.settled_program_laws.Goals as goal

pub returns : goal.returns
returns c = settled_laws

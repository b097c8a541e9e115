use Rattle.core_laws.proofs.Programs.{core_laws}
use Rattle.core_laws.proofs.core_laws.Goals as goal

pub returns : goal.returns
returns c = core_laws

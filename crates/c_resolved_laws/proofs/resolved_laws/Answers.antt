use Rattle.c_resolved_laws.proofs.TheLaws.{resolved_laws}
use Rattle.c_resolved_laws.proofs.resolved_laws.Goals as goal

pub returns : goal.returns
returns c = resolved_laws

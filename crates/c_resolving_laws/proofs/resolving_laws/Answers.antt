use Rattle.c_resolving_laws.proofs.TheLaws.{resolving_laws}
use Rattle.c_resolving_laws.proofs.resolving_laws.Goals as goal

pub returns : goal.returns
returns c = resolving_laws

use Rattle.c_source_laws.proofs.TheLimitLaws.{limit_laws}
use Rattle.c_source_laws.proofs.limit_laws.Goals as goal

pub returns : goal.returns
returns c = limit_laws

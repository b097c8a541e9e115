use Rattle.reread_parts_laws.proofs.TheLaws.{reread_laws}
use Rattle.reread_parts_laws.proofs.reread_laws.Goals as goal

pub returns : goal.returns
returns c = reread_laws

use Rattle.plain_laws.proofs.TheLaws.{plain_laws as the_laws}
use Rattle.plain_laws.proofs.plain_laws.Goals as goal

pub returns : goal.returns
returns c = the_laws

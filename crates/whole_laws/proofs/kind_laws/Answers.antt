use Rattle.whole_laws.proofs.TheLaws.{kind_laws as the_laws}
use Rattle.whole_laws.proofs.kind_laws.Goals as goal

pub returns : goal.returns
returns c = the_laws

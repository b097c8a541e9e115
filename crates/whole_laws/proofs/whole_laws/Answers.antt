use Rattle.whole_laws.proofs.Whole.{whole_laws as the_laws}
use Rattle.whole_laws.proofs.whole_laws.Goals as goal

pub returns : goal.returns
returns c = the_laws

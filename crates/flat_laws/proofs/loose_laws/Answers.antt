use Rattle.flat_laws.proofs.Lifted.{loose_laws}
use Rattle.flat_laws.proofs.loose_laws.Goals as goal

pub returns : goal.returns
returns c = loose_laws

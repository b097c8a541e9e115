use Rattle.flat_laws.proofs.Flattened.{flat_laws}
use Rattle.flat_laws.proofs.flat_laws.Goals as goal

pub returns : goal.returns
returns c = flat_laws

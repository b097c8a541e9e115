use Rattle.flat_laws.proofs.made_laws.Goals as goal
use Rattle.flat_laws.proofs.WellMade.{made_laws}

-- src/lib.rt:7:1
pub returns : goal.returns
returns c = made_laws

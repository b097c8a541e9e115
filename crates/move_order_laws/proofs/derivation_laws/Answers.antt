use Rattle.move_order_laws.proofs.SomeDerivation.{derivation_laws}
use Rattle.move_order_laws.proofs.derivation_laws.Goals as goal

pub returns : goal.returns
returns c = derivation_laws

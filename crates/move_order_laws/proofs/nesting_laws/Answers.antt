use Rattle.move_order_laws.proofs.SomeDerivation.{nesting_laws}
use Rattle.move_order_laws.proofs.nesting_laws.Goals as goal

pub returns : goal.returns
returns c = nesting_laws

use Rattle.move_order_laws.proofs.SomeDerivation.{count_laws}
use Rattle.move_order_laws.proofs.count_laws.Goals as goal

pub returns : goal.returns
returns c = count_laws

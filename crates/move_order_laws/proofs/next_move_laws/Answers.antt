use Rattle.move_order_laws.proofs.SomeDerivation.{next_move_laws}
use Rattle.move_order_laws.proofs.next_move_laws.Goals as goal

pub returns : goal.returns
returns c = next_move_laws

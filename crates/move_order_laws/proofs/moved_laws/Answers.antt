use Rattle.move_order_laws.proofs.Joined.{moved_laws}
use Rattle.move_order_laws.proofs.moved_laws.Goals as goal

pub returns : goal.returns
returns c = moved_laws

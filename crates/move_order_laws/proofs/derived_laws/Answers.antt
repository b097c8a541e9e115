use Rattle.move_order_laws.proofs.Behaviour.{derived_laws}
use Rattle.move_order_laws.proofs.derived_laws.Goals as goal

pub returns : goal.returns
returns c = derived_laws

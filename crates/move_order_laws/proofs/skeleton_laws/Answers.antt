use Rattle.move_order_laws.proofs.Laws.{skeleton_laws}
use Rattle.move_order_laws.proofs.skeleton_laws.Goals as goal

pub returns : goal.returns
returns c = skeleton_laws

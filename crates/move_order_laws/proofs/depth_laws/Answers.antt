use Rattle.move_order_laws.proofs.Depth.{depth_laws}
use Rattle.move_order_laws.proofs.depth_laws.Goals as goal

pub returns : goal.returns
returns c = depth_laws

use Rattle.move_order_laws.proofs.Derived.{sequence_laws}
use Rattle.move_order_laws.proofs.sequences.sequence_laws.Goals as goal

pub returns : goal.returns
returns c = sequence_laws

use Rattle.move_order_laws.proofs.ProgramsConverted.{conversion_laws}
use Rattle.move_order_laws.proofs.conversion_laws.Goals as goal

pub returns : goal.returns
returns c = conversion_laws

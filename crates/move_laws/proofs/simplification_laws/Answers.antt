use Rattle.move_laws.proofs.ProgramsSimplified.{simplification_laws}
use Rattle.move_laws.proofs.simplification_laws.Goals as goal

pub returns : goal.returns
returns c = simplification_laws

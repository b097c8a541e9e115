use Rattle.move_laws.proofs.Laws.{program_laws}
use Rattle.move_laws.proofs.program_laws.Goals as goal

pub returns : goal.returns
returns c = program_laws

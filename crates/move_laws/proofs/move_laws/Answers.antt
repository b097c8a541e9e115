use Rattle.move_laws.proofs.Laws.{move_laws}
use Rattle.move_laws.proofs.move_laws.Goals as goal

pub returns : goal.returns
returns c = move_laws

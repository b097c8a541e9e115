use Rattle.move_laws.proofs.Laws.{better_laws}
use Rattle.move_laws.proofs.better_laws.Goals as goal

pub returns : goal.returns
returns c = better_laws

use Rattle.move_laws.proofs.Laws.{behaviour_laws}
use Rattle.move_laws.proofs.behaviour_laws.Goals as goal

pub returns : goal.returns
returns c = behaviour_laws

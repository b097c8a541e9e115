use Rattle.restructure_laws.proofs.Whole.{lawful_laws}
use Rattle.restructure_laws.proofs.lawful_move_laws.Goals as goal

pub returns : goal.returns
returns c = lawful_laws

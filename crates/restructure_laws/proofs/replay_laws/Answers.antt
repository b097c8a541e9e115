use Rattle.restructure_laws.proofs.Whole.{replayed_laws}
use Rattle.restructure_laws.proofs.replay_laws.Goals as goal

pub returns : goal.returns
returns c = replayed_laws

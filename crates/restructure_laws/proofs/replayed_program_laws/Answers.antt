use Rattle.restructure_laws.proofs.Laws.{replayed_program_laws}
use Rattle.restructure_laws.proofs.replayed_program_laws.Goals as goal

pub returns : goal.returns
returns c = replayed_program_laws

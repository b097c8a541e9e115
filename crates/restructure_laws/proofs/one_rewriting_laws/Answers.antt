use Rattle.restructure_laws.proofs.WholeUniquePrograms.{one_rewriting_laws}
use Rattle.restructure_laws.proofs.one_rewriting_laws.Goals as goal

pub returns : goal.returns
returns c = one_rewriting_laws

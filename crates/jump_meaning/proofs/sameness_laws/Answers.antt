use Rattle.jump_meaning.proofs.RunFacts.{sameness_laws}
use Rattle.jump_meaning.proofs.sameness_laws.Goals as goal

pub returns : goal.returns
returns c = sameness_laws

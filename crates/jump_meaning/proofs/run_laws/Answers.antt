use Rattle.jump_meaning.proofs.RunFacts.{run_laws}
use Rattle.jump_meaning.proofs.run_laws.Goals as goal

pub returns : goal.returns
returns c = run_laws

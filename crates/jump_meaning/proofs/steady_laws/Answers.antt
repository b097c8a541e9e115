use Rattle.jump_meaning.proofs.UnguardedPrograms.{steady_laws}
use Rattle.jump_meaning.proofs.steady_laws.Goals as goal

pub returns : goal.returns
returns c = steady_laws

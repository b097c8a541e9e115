use Rattle.jump_meaning.proofs.Memory.{memory_laws}
use Rattle.jump_meaning.proofs.memory_laws.Goals as goal

pub returns : goal.returns
returns c = memory_laws

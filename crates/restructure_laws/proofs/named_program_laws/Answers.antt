use Rattle.restructure_laws.proofs.NamedTops.{named_program_laws}
use Rattle.restructure_laws.proofs.named_program_laws.Goals as goal

pub returns : goal.returns
returns c = named_program_laws

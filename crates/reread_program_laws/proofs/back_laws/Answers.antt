use Rattle.reread_program_laws.proofs.Back.{back_laws}
use Rattle.reread_program_laws.proofs.back_laws.Goals as goal

pub returns : goal.returns
returns c = back_laws

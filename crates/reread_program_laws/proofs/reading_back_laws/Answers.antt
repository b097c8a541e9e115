use Rattle.reread_program_laws.proofs.ReadingBack.{reading_back_laws}
use Rattle.reread_program_laws.proofs.reading_back_laws.Goals as goal

pub returns : goal.returns
returns c = reading_back_laws

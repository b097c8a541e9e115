use Rattle.whole_laws.proofs.WholeCommentsPrograms.{notes_laws}
use Rattle.whole_laws.proofs.notes_laws.Goals as goal

pub returns : goal.returns
returns c = notes_laws

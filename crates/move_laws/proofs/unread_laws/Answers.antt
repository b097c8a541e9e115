use Rattle.move_laws.proofs.ProgramsDropped.{unread_laws}
use Rattle.move_laws.proofs.unread_laws.Goals as goal

pub returns : goal.returns
returns c = unread_laws

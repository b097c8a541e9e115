use Rattle.c_violation_laws.proofs.TheFileLaws.{file_laws as the_laws}
use Rattle.c_violation_laws.proofs.file_laws.Goals as goal

pub returns : goal.returns
returns c = the_laws

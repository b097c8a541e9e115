use Rattle.c_violation_laws.proofs.TheProgramLaws.{program_laws}
use Rattle.c_violation_laws.proofs.program_laws.Goals as goal

pub returns : goal.returns
returns c = program_laws

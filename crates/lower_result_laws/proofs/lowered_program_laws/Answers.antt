use Rattle.lower_result_laws.proofs.LoweredBehavesProvedLaws.{lowered_program_laws}
use Rattle.lower_result_laws.proofs.lowered_program_laws.Goals as goal

pub returns : goal.returns
returns c = lowered_program_laws

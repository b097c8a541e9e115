use Rattle.lower_result_laws.proofs.LoweredRereadProvedLaws.{lowered_reading_laws}
use Rattle.lower_result_laws.proofs.lowered_reading_laws.Goals as goal

pub returns : goal.returns
returns c = lowered_reading_laws

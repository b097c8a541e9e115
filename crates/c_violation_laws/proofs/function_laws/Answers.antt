use Rattle.c_violation_laws.proofs.TheFunctionLaws.{function_laws as the_laws}
use Rattle.c_violation_laws.proofs.function_laws.Goals as goal

pub returns : goal.returns
returns c = the_laws

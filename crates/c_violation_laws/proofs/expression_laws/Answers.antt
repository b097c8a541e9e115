use Rattle.c_violation_laws.proofs.TheExpressionLaws.{expression_laws as the_laws}
use Rattle.c_violation_laws.proofs.expression_laws.Goals as goal

pub returns : goal.returns
returns c = the_laws

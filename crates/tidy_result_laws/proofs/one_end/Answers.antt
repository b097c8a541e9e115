use Rattle.tidy_result_laws.proofs.OneEnd.{one_end}
use Rattle.tidy_result_laws.proofs.one_end.Goals as goal

pub returns : goal.returns
returns c = one_end

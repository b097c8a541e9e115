use Rattle.tidy_result_laws.proofs.Ends.{ends_read_back}
use Rattle.tidy_result_laws.proofs.ends_read_back.Goals as goal

pub returns : goal.returns
returns c = ends_read_back

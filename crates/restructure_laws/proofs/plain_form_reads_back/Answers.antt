use Rattle.restructure_laws.proofs.ReadBack.{plain_form_reads_back}
use Rattle.restructure_laws.proofs.plain_form_reads_back.Goals as goal

pub returns : goal.returns
returns c = plain_form_reads_back

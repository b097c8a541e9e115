use Rattle.print_laws.proofs.ReadBack.{printed_reads_back}
use Rattle.print_laws.proofs.printed_reads_back.Goals as goal

pub returns : goal.returns
returns c = printed_reads_back

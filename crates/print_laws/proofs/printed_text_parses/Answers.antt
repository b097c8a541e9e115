use Rattle.print_laws.proofs.Parsing.{printed_text_parses}
use Rattle.print_laws.proofs.printed_text_parses.Goals as goal

pub returns : goal.returns
returns c = printed_text_parses

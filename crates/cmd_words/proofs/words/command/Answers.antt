use Rattle.cmd_words.proofs.Lengths.{too_many}
use Rattle.cmd_words.proofs.words.command.Goals as goal

pub returns-in-len6-up : goal.returns-in-len6-up
returns-in-len6-up c = too_many _ c.args.words.now c.in-len6-up.len_at_least

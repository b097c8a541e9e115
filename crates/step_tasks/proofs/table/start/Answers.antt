use Rattle.std.proofs.Common.{ap, sym, ◌∙◌}
use Rattle.std.specs.Option.{option_copied}
use Rattle.step_tasks.proofs.LabelLemmas.{entry_is, no_entry}
use Rattle.step_tasks.proofs.table.start.Goals as goal

pub returns-in-Some : goal.returns-in-Some
returns-in-Some c = entry_is c.args.labels.now.starts c.args.label c.in-Some.start.now (sym c.get.ensures.value ∙ ap option_copied c.in-Some.is)

pub returns-in-None : goal.returns-in-None
returns-in-None c = no_entry c.args.labels.now.starts c.args.label (sym c.get.ensures.value ∙ ap option_copied c.in-None.is)

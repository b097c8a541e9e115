use Rattle.std.proofs.Common.{sym, ap, ◌∙◌}
use Rattle.std.specs.Option.{option_copied}
use Rattle.tidy_loops.proofs.Giving.{none_told}
use Rattle.tidy_loops.proofs.ways.is_told.Goals as goal

pub returns-in-None : goal.returns-in-None
returns-in-None c = sym (none_told c.args.told.now c.args.at (sym c.get.ensures.value ∙ ap option_copied c.in-None.is))

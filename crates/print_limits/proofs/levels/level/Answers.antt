use Rattle.std.proofs.Common.{sym, ◌∙◌}
use Rattle.print_limits.proofs.Layers.{level-is}
use Rattle.print_limits.proofs.levels.level.Goals as goal

pub returns : goal.returns
returns c = c.node_level.ensures ∙ sym (level-is c.args.e.now)

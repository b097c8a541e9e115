use Rattle.restructure_laws.proofs.Levels.{jumps_are_within_levels}
use Rattle.restructure_laws.proofs.jumps_within_levels.Goals as goal

pub returns : goal.returns
returns c = jumps_are_within_levels

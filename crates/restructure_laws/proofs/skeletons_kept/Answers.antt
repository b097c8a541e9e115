use Rattle.restructure_laws.proofs.Kept.{skeletons_are_kept}
use Rattle.restructure_laws.proofs.skeletons_kept.Goals as goal

pub returns : goal.returns
returns c = skeletons_are_kept

use Rattle.restructure_laws.proofs.Sizes.{sizes_are_bounded}
use Rattle.restructure_laws.proofs.sizes_bounded.Goals as goal

pub returns : goal.returns
returns c = sizes_are_bounded

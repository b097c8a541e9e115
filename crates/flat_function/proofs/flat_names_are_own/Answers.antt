use Rattle.flat_function.proofs.NamedOwn.{flat_names_own}
use Rattle.flat_function.proofs.flat_names_are_own.Goals as goal

pub returns : goal.returns
returns c = flat_names_own

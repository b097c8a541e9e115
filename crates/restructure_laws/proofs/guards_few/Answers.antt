use Rattle.restructure_laws.proofs.FewGuards.{guards_are_few}
use Rattle.restructure_laws.proofs.guards_few.Goals as goal

pub returns : goal.returns
returns c = guards_are_few

use Rattle.jump_meaning.proofs.FoundFacts.{search_laws}
use Rattle.jump_meaning.proofs.search_laws.Goals as goal

pub returns : goal.returns
returns c = search_laws

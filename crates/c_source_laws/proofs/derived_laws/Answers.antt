use Rattle.c_source_laws.proofs.TheDerivedLaws.{derived_laws}
use Rattle.c_source_laws.proofs.derived_laws.Goals as goal

pub returns : goal.returns
returns c = derived_laws

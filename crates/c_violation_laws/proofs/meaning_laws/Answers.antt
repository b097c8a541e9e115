use Rattle.c_violation_laws.proofs.TheMeaningLaws.{meaning_laws}
use Rattle.c_violation_laws.proofs.meaning_laws.Goals as goal

pub returns : goal.returns
returns c = meaning_laws

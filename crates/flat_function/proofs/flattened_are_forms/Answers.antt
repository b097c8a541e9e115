use Rattle.flat_function.proofs.Forms.{flattened}
use Rattle.flat_function.proofs.flattened_are_forms.Goals as goal

pub returns : goal.returns
returns c = flattened

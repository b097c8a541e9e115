use Rattle.flat_function.proofs.Forms.{forms}
use Rattle.flat_function.proofs.flat_names_make_forms.Goals as goal

pub returns : goal.returns
returns c = forms

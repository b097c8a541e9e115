use Rattle.whole_laws.proofs.NamedForm.{named_form_resolved}
use Rattle.whole_laws.proofs.named_plain_form_is_resolved.Goals as goal

pub returns : goal.returns
returns c = named_form_resolved

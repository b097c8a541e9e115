use Rattle.whole_laws.proofs.Resolved.{plain_form_resolved}
use Rattle.whole_laws.proofs.plain_form_is_resolved.Goals as goal

pub returns : goal.returns
returns c = plain_form_resolved

use Rattle.std.proofs.Common.{◌∙◌}
use Rattle.plain_form.proofs.MadeLaws.{kept_items}
use Rattle.plain_form.proofs.items.tidied_items.Goals as goal

pub returns : goal.returns
returns c = c.in_ok-make_list.ensures ∙ kept_items c.args.list

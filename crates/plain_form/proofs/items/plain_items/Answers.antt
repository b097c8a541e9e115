use Rattle.std.proofs.Common.{◌∙◌}
use Rattle.plain_form.proofs.MadeLaws.{variable_items}
use Rattle.plain_form.proofs.items.plain_items.Goals as goal

pub returns : goal.returns
returns c = c.in_ok-make_list.ensures ∙ variable_items c.args.slots c.args.list

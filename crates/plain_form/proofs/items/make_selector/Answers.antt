use Rattle.std.proofs.Common.{sym, ap, ◌∙◌}
use Rattle.c_tree.specs.declared.tree.Selector.{Source}
use Rattle.plain_laws.specs.Plain.{plain_selector}
use Rattle.plain_form.specs.Made.{slot_in, selector_made}
use Rattle.plain_form.proofs.items.make_selector.Goals as goal

pub returns-in_ok-e-in-Variables : goal.returns-in_ok-e-in-Variables
returns-in_ok-e-in-Variables c =
    c.replace.ensures.after ∙ ap Source (c.in_ok-e-in-Variables.ensures ∙ ap (plain_selector (slot_in c.in-Variables.slots)) c.replace-taken.ensures.value)
    ∙ sym (ap (λ g. selector_made g c.args.selector.now) c.in-Variables.is)

use Rattle.std.proofs.Common.{sym, ◌∙◌}
use Rattle.flat_form.proofs.Calm.{calm_flattened, prototype_flattened}
use Rattle.flat_form.proofs.forms.make_calm.Goals as goal

pub returns-in-Some : goal.returns-in-Some
returns-in-Some c = λ used taken.
    calm_flattened used taken c.args.function.now c.in-Some.body c.clear.new.list _ (sym c.replace.ensures.value ∙ c.in-Some.is) c.requires
    c.clear.ensures (c.replace-in-Some.ensures.after ∙ c.new.ensures)

pub returns-in-None : goal.returns-in-None
returns-in-None c = λ used taken.
    prototype_flattened used taken c.args.function.now c.replace.new.dest (sym c.replace.ensures.value ∙ c.in-None.is) c.replace.ensures.after

use Rattle.flat_form.proofs.Calm.{flat_flattened}
use Rattle.flat_form.proofs.forms.flatten_function.Goals as goal

pub returns-in-Some-clause-ok : goal.returns-in-Some-clause-ok
returns-in-Some-clause-ok c =
    let n = c.args.names.now in
    flat_flattened n.used.file n.taken.file c.args.function.now c.make_flat.new.function _ c.in-Some.made c.in-Some.is c.in_ok-made.ensures.some
    c.make_flat.ensures

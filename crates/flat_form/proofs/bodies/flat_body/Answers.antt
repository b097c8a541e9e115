use Rattle.std.proofs.Common.{ap, ◌∙◌}
use Rattle.c_tree.specs.Trees.{trees_of}
use Rattle.flat_laws.specs.FlatForm.{place_in}
use Rattle.flat_items.specs.Plans.{number_at}
use Rattle.flat_form.proofs.Numbered.{renumbered}
use Rattle.flat_form.proofs.bodies.flat_body.Goals as goal

pub returns-clause-items : goal.returns-clause-items
returns-clause-items c =
    let number = number_at c.in_ok-places.places in
    c.in_ok-renumber.ensures
    ∙ renumbered c.args.function.now (trees_of c.args.body.now) (trees_of c.in_ok-items.items) c.in_ok-codes.codes number
    c.in_ok-items.ensures c.in_ok-codes.ensures (λ m. c.in_ok-places.ensures m ∙ ap (λ z. place_in z m) c.as_slice.ensures.value)

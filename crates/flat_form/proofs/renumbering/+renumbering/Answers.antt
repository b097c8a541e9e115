use Rattle.std.proofs.Common.{refl, arith}
use Rattle.flat_laws.specs.Relabelled.{relabelled, relabelled_item, relabelled_among}
use Rattle.flat_items.specs.Plans.{number_at}
use Rattle.flat_form.proofs.Renumbered.{items_done, sections_done}
use Rattle.flat_form.proofs.renumbering.+renumbering.Goals as goal

pub renumber_items-returns-clause-renumbered : goal.renumber_items-returns-clause-renumbered
renumber_items-returns-clause-renumbered t c =
    let d = c.loop-i.invariant.1 in
    let end = c.loop-i-test.false in
    items_done (relabelled_item (number_at c.args.places.now)) (relabelled (number_at c.args.places.now)) refl (λ x a. refl) c.args.items.now
    c.loop-i.items d.0 (λ k x l. d.1 k x (omega (arith, l, end, d.0)))

pub renumber_sections-returns-clause-renumbered : goal.renumber_sections-returns-clause-renumbered
renumber_sections-returns-clause-renumbered t c =
    let d = c.loop-i.invariant.1 in
    let end = c.loop-i-test.false in
    sections_done (relabelled_among (number_at c.args.places.now)) refl (λ x d. refl) c.args.sections.now c.loop-i.sections d.0
    (λ k x l. d.1 k x (omega (arith, l, end, d.0)))

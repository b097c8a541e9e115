use Rattle.std.proofs.Common.{sym, ap, ◌∙◌}
use Rattle.std.specs.Vec.Iter.{into_iter_items}
use Rattle.c_tree.specs.Changed.{one}
use Rattle.c_tree.specs.Trees.{trees_of, join}
use Rattle.c_tree.proofs.Views.{trees-push}
use Rattle.flat_items.specs.Plans.{number_at}
use Rattle.goto_lowering.specs.Renumbered.{renumbered}
use Rattle.lower_items.proofs.Moving.{emptied}
use Rattle.goto_lowering.proofs.Layouts.{renumbered_step, renumbered_end}
use Rattle.goto_lowering.proofs.bodies.add_renumbered.Goals as goal

pub loop-item-preserved : goal.loop-item-preserved
loop-item-preserved c =
    let f = number_at c.args.places.now in
    let o = c.loop-item.out in
    let steps = c.in-Some.ensures.steps.0 in
    renumbered_step f c.in-Some.item (into_iter_items c.next.new.self) (trees_of o) (trees_of c.push.new.self) _
    (ap trees_of c.in_ok-push.ensures.ok ∙ trees-push o _ ∙ ap (λ z. join (trees_of o) (one z)) c.in_ok-renumbered.ensures)
    (sym (ap (λ z. join (trees_of o) (renumbered f (trees_of z))) steps) ∙ c.loop-item.invariant)

pub returns : goal.returns
returns c =
    let f = number_at c.args.places.now in
    let o = trees_of c.loop-item.out in
    renumbered_end f o _ (sym (ap (λ z. join o (renumbered f (trees_of z))) (emptied c.loop-item.item-iterator c.in-None.ensures.steps.0)) ∙
    c.loop-item.invariant)

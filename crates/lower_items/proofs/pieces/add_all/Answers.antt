use Rattle.std.proofs.Common.{sym, ap, ◌∙◌}
use Rattle.std.specs.Vec.Iter.{into_iter_items}
use Rattle.c_tree.specs.Trees.{trees_of, join}
use Rattle.lower_items.proofs.Moving.{emptied, all_step, all_end}
use Rattle.lower_items.proofs.pieces.add_all.Goals as goal

pub loop-item-preserved : goal.loop-item-preserved
loop-item-preserved c =
    let o = trees_of c.loop-item.out in
    all_step c.in-Some.item (into_iter_items c.next.new.self) o (trees_of c.add.new.out) _ c.in_ok-add.ensures
    (sym (ap (λ z. join o (trees_of z)) c.in-Some.ensures.steps.0) ∙ c.loop-item.invariant)

pub returns : goal.returns
returns c =
    let o = trees_of c.loop-item.out in
    all_end o _ (sym (ap (λ z. join o (trees_of z)) (emptied c.loop-item.item-iterator c.in-None.ensures.steps.0)) ∙ c.loop-item.invariant)

use Rattle.std.proofs.Common.{sym, ap, ◌∙◌}
use Rattle.std.specs.Vec.Iter.{into_iter_items}
use Rattle.c_tree.specs.Trees.{trees_of, join}
use Rattle.lower_items.specs.Pieces.{pieces_of}
use Rattle.lower_items.proofs.Hanging.{each_step, pieces_end}
use Rattle.lower_items.proofs.Moving.{emptied}
use Rattle.lower_items.proofs.written.add_each.Goals as goal

pub loop-piece-preserved : goal.loop-piece-preserved
loop-piece-preserved c =
    let o = trees_of c.loop-piece.out in
    each_step c.in-Some.piece (into_iter_items c.next.new.self) o (trees_of c.add_all.new.out) _ c.in_ok-add_all.ensures
    (sym (ap (λ z. join o (pieces_of z)) c.in-Some.ensures.steps.0) ∙ c.loop-piece.invariant)

pub returns : goal.returns
returns c =
    let o = trees_of c.loop-piece.out in
    pieces_end o _ (sym (ap (λ z. join o (pieces_of z)) (emptied c.loop-piece.piece-iterator c.in-None.ensures.steps.0)) ∙ c.loop-piece.invariant)

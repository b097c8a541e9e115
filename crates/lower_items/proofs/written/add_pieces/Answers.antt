use Rattle.std.proofs.Common.{sym, ap, ◌∙◌}
use Rattle.std.specs.Vec.Iter.{into_iter_items}
use Rattle.c_tree.specs.Trees.{join}
use Rattle.lower_items.specs.Pieces.{pieces_of}
use Rattle.lower_items.proofs.Hanging.{pieces_step, pieces_end}
use Rattle.lower_items.proofs.Moving.{emptied}
use Rattle.lower_items.proofs.written.add_pieces.Goals as goal

pub loop-piece-preserved : goal.loop-piece-preserved
loop-piece-preserved c =
    let o = pieces_of c.loop-piece.out in
    pieces_step c.in-Some.piece (into_iter_items c.next.new.self) c.loop-piece.out c.push.new.self _ c.in_ok-push.ensures.ok
    (sym (ap (λ z. join o (pieces_of z)) c.in-Some.ensures.steps.0) ∙ c.loop-piece.invariant)

pub returns : goal.returns
returns c =
    let o = pieces_of c.loop-piece.out in
    pieces_end o _ (sym (ap (λ z. join o (pieces_of z)) (emptied c.loop-piece.piece-iterator c.in-None.ensures.steps.0)) ∙ c.loop-piece.invariant)

use Rattle.std.proofs.Common.{◌≡◌}
use Rattle.std.specs.Vec.Iter.{into_iter_items}
use Rattle.c_tree.specs.Trees.{join}
use Rattle.lower_items.specs.Pieces.{pieces_of}
use Rattle.lower_items.proofs.written.add_pieces.Given as goal

abbrev pub invariant-loop-piece : goal.invariant-loop-piece
invariant-loop-piece l = join (pieces_of l.out) (pieces_of (into_iter_items l.piece-iterator)) ≡ join (pieces_of l.initial.out) (pieces_of l.fn.pieces)

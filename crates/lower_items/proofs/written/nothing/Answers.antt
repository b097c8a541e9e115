use Rattle.std.proofs.Common.{ap, ◌∙◌}
use Rattle.c_tree.specs.Trees.{trees_of, join}
use Rattle.c_tree.proofs.TreeLaws.{trees-none}
use Rattle.lower_items.specs.Pieces.{pieces_of}
use Rattle.lower_items.proofs.written.nothing.Goals as goal

pub returns : goal.returns
returns c = ap (λ z. join (pieces_of z) (trees_of c.new-2.result)) c.new.ensures ∙ ap trees_of c.new-2.ensures ∙ trees-none

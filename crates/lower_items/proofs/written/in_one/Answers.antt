use Rattle.std.proofs.Common.{sym, ap, ◌∙◌}
use Rattle.c_tree.specs.Trees.{trees_of, join}
use Rattle.c_tree.proofs.TreeLaws.{trees-none}
use Rattle.lower_items.specs.Pieces.{pieces_of}
use Rattle.lower_items.proofs.written.in_one.Goals as goal

pub returns-then-is_empty : goal.returns-then-is_empty
returns-then-is_empty c = sym (ap (λ z. join (pieces_of z) (trees_of c.args.all.last)) (c.is_empty.ensures.0 c.if-is_empty.true))

pub returns : goal.returns
returns c =
    let ps = pieces_of c.args.all.pieces in
    let l = trees_of c.args.all.last in
    c.in_ok-add_all.ensures ∙ ap (λ z. join z l) (c.in_ok-add_each.ensures ∙ ap (λ z. join (trees_of z) ps) c.in_ok-out.ensures ∙
    ap (λ z. join z ps) trees-none)

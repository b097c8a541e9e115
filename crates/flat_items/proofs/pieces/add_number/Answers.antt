use Rattle.std.proofs.Common.{◌≡◌, [], None, sym, ap, ◌∙◌}
use Rattle.c_tree.specs.Trees.{trees_of, expression_trees, join}
use Rattle.c_tree.proofs.TreeLaws.{join-nil}
use Rattle.flat_laws.specs.FlatForm.{assigned}
use Rattle.flat_items.proofs.pieces.add_number.Goals as goal

pub returns-then-is_empty : goal.returns-then-is_empty
returns-then-is_empty c =
    let none : c.args.given ≡ [] = c.is_empty.ensures.0 c.if-is_empty.true in
    sym (ap (λ z. join (trees_of c.args.out.now) (assigned c.args.kind c.args.slot None (expression_trees z))) none ∙ join-nil (trees_of c.args.out.now))

use Rattle.std.proofs.Common.{option_map, sym, ap, ◌∙◌}
use Rattle.c_tree.specs.ExpressionTrees.{expression_tree}
use Rattle.c_tree.specs.Trees.{trees_of, join}
use Rattle.c_tree.proofs.TreeLaws.{join-nil}
use Rattle.flat_laws.specs.Pieces.{third_items}
use Rattle.flat_items.proofs.pieces.with_third.Goals as goal

pub returns-in-None : goal.returns-in-None
returns-in-None c = sym (ap (λ z. join (trees_of c.args.a) (third_items (option_map expression_tree z))) c.in-None.is ∙ join-nil (trees_of c.args.a))

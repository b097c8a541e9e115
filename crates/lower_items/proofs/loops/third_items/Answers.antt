use Rattle.std.proofs.Common.{option_map, sym, ap, ◌∙◌}
use Rattle.c_tree.specs.ExpressionTrees.{expression_tree}
use Rattle.c_tree.specs.Trees.{trees_of}
use Rattle.c_tree.proofs.TreeLaws.{trees-none}
use Rattle.flat_laws.specs.Pieces.{third_items}
use Rattle.lower_items.proofs.loops.third_items.Goals as goal

pub returns-in-None : goal.returns-in-None
returns-in-None c = ap trees_of c.new.ensures ∙ trees-none ∙ sym (ap (λ z. third_items (option_map expression_tree z)) c.in-None.is)

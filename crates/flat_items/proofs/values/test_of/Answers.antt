use Rattle.std.proofs.Common.{pos, option_map, sym, ap, ◌∙◌}
use Rattle.c_types.specs.declared.kinds.IntKind.TheVariants.{Int}
use Rattle.c_tree.specs.ExpressionTrees.{expression_tree}
use Rattle.c_tree.specs.TestTrees as PT
use Rattle.c_tree.specs.TestTrees.{TestTree, SelectorTree, test_tree, selector_tree}
use Rattle.c_tree.proofs.ExpressionLaws.{test-Source}
use Rattle.flat_laws.specs.Pieces.{test_or_one}
use Rattle.flat_items.proofs.Spelling.{typed-Number}
use Rattle.flat_items.proofs.values.test_of.Goals as goal

pub returns-in_ok-copy_expression-in-Some : goal.returns-in_ok-copy_expression-in-Some
returns-in_ok-copy_expression-in-Some c = test-Source _ ∙ ap PT.Source
    (ap expression_tree (c.in_ok-copy_expression-in-Some.ensures ∙ c.get.ensures) ∙ ap (λ z. test_or_one (option_map expression_tree z)) (sym c.in-Some.is))

pub returns-in-None : goal.returns-in-None
returns-in-None c = test-Source _ ∙ ap PT.Source (typed-Number Int (pos 1) ∙ ap (λ z. test_or_one (option_map expression_tree z)) (sym c.in-None.is))

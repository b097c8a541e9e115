-- Tests and selectors as plain data.
use Rattle.std.specs.Prelude.{ℕ, ℤ}
use Rattle.c_tree.specs.declared.tree.Test.{Test, Test-F, fold-Test}
use Rattle.c_tree.specs.declared.tree.Test.TheOpen as OpenTest
use Rattle.c_tree.specs.declared.tree.Selector.{Selector, Selector-F, fold-Selector}
use Rattle.c_tree.specs.declared.tree.Selector.TheOpen as OpenSelector
use Rattle.c_tree.specs.ExpressionTrees.{ExpressionTree, expression_tree}

pub data TestTree : Type 0 where
  Source : ExpressionTree → TestTree
  On : ℕ → TestTree
  Off : ℕ → TestTree
  AndOff : ℕ → TestTree → TestTree
  OrOn : ℕ → TestTree → TestTree

-- a selector: its source expression, and the numbers that it has where guards are set
pub data SelectorTree : Type 0 where
  Selects : ExpressionTree → SelectorTree
  Pick : ℕ → ℤ → SelectorTree → SelectorTree

abbrev pub test_layer : Test-F TestTree → TestTree
test_layer (OpenTest.Source e) = Source (expression_tree e)
test_layer (OpenTest.On l) = On l
test_layer (OpenTest.Off l) = Off l
test_layer (OpenTest.AndOff l t) = AndOff l t
test_layer (OpenTest.OrOn l t) = OrOn l t

abbrev pub selector_layer : Selector-F SelectorTree → SelectorTree
selector_layer (OpenSelector.Source e) = Selects (expression_tree e)
selector_layer (OpenSelector.Pick l k s) = Pick l k s

unfoldable pub test_tree : Test → TestTree
test_tree t = fold-Test TestTree test_layer t

unfoldable pub selector_tree : Selector → SelectorTree
selector_tree s = fold-Selector SelectorTree selector_layer s

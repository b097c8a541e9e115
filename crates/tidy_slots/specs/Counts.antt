-- How often a list names a slot: in its expressions, tests, selectors and declarations.
use Rattle.std.specs.Prelude.{ℕ, ◌+◌, Bool, true, false, eqb, List, [], ◌∷◌, Option, Some, None}
use Rattle.c_tree.specs.declared.tree.Home.{Home}
use Rattle.c_tree.specs.declared.tree.Home.TheVariants as H
use Rattle.c_tree.specs.ExpressionTrees.{ExpressionTree, PlaceTree, NodeTree, Arguments, Typed, Var, Cell, Array, Read, Unary, Cast, Binary, Conditional, Assign, Update, Count, Comma, Call, NoArgument, Argument}
use Rattle.c_tree.specs.TestTrees.{TestTree, Source, AndOff, OrOn, SelectorTree, Selects, Pick}
use Rattle.c_tree.specs.Trees.{Tree, Forest, Nil, Then, Sections, NoSection, Section, Evaluate, Return, If, While, Do, For, Switch, Block, Local, Arm}

abbrev pub one_if : Bool → ℕ
one_if true = 1
one_if false = 0

abbrev pub home_count : ℕ → Home → ℕ
home_count g (H.Slot x) = one_if (eqb x g)
home_count g (H.Global n) = 0

abbrev mutual
  pub expression_count : ℕ → ExpressionTree → ℕ
  expression_count g (Typed kind node) = node_count g node

  pub place_count : ℕ → PlaceTree → ℕ
  place_count g (Var h) = home_count g h
  place_count g (Cell h a) = home_count g h + expression_count g a

  pub node_count : ℕ → NodeTree → ℕ
  node_count g (Array h) = home_count g h
  node_count g (Read p) = place_count g p
  node_count g (Unary op a) = expression_count g a
  node_count g (Cast a) = expression_count g a
  node_count g (Binary op a b) = expression_count g a + expression_count g b
  node_count g (Conditional a b c) = expression_count g a + (expression_count g b + expression_count g c)
  node_count g (Assign p a) = place_count g p + expression_count g a
  node_count g (Update op p a) = place_count g p + expression_count g a
  node_count g (Count p up after) = place_count g p
  node_count g (Comma a b) = expression_count g a + expression_count g b
  node_count g (Call f xs) = arguments_count g xs
  node_count g _ = 0

  pub arguments_count : ℕ → Arguments → ℕ
  arguments_count g NoArgument = 0
  arguments_count g (Argument x xs) = expression_count g x + arguments_count g xs

abbrev pub test_count : ℕ → TestTree → ℕ
test_count g (Source e) = expression_count g e
test_count g (AndOff l t) = test_count g t
test_count g (OrOn l t) = test_count g t
test_count g _ = 0

abbrev pub selector_count : ℕ → SelectorTree → ℕ
selector_count g (Selects e) = expression_count g e
selector_count g (Pick l n s) = selector_count g s

abbrev pub all_count : ℕ → List ExpressionTree → ℕ
all_count g [] = 0
all_count g (e ∷ es) = expression_count g e + all_count g es

abbrev pub option_count : ℕ → Option ExpressionTree → ℕ
option_count g None = 0
option_count g (Some e) = expression_count g e

abbrev pub values_count : ℕ → Option (List ExpressionTree) → ℕ
values_count g None = 0
values_count g (Some es) = all_count g es

abbrev mutual
  -- at any depth; cases are constants, which name no slot
  pub list_count : ℕ → Forest → ℕ
  list_count g Nil = 0
  list_count g (Then x xs) = item_count g x + list_count g xs

  pub item_count : ℕ → Tree → ℕ
  item_count g (Evaluate e) = expression_count g e
  item_count g (Return e) = option_count g e
  item_count g (If t a b) = test_count g t + (list_count g a + list_count g b)
  item_count g (While t a) = test_count g t + list_count g a
  item_count g (Do a t) = list_count g a + test_count g t
  item_count g (For f t u a) = list_count g f + (option_count g t + (option_count g u + list_count g a))
  item_count g (Switch s c) = selector_count g s + sections_count g c
  item_count g (Block a) = list_count g a
  item_count g (Local x es) = one_if (eqb x g) + values_count g es
  item_count g (Arm l e) = option_count g e
  item_count g _ = 0

  pub sections_count : ℕ → Sections → ℕ
  sections_count g NoSection = 0
  sections_count g (Section cases default a ends c) = list_count g a + sections_count g c

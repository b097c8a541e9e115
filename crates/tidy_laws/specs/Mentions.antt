-- Whether a slot is named, as a test.
use Rattle.std.specs.Prelude.{ℕ, Bool, true, not, ◌&&◌, eqb, List, [], ◌∷◌, Option, Some, None}
use Rattle.c_tree.specs.declared.tree.Home.{Home}
use Rattle.c_tree.specs.declared.tree.Home.TheVariants as H
use Rattle.c_tree.specs.ExpressionTrees.{ExpressionTree, PlaceTree, NodeTree, Arguments, Typed, Var, Cell, Array, Read, Unary, Cast, Binary, Conditional, Assign, Update, Count, Comma, Call, NoArgument, Argument}
use Rattle.c_tree.specs.TestTrees.{TestTree, Source, AndOff, OrOn, SelectorTree, Selects, Pick}
use Rattle.c_tree.specs.Trees.{Tree, Forest, Nil, Then, Sections, NoSection, Section, Evaluate, Return, If, While, Do, For, Switch, Block, Local, Arm}

abbrev pub home_lacks : ℕ → Home → Bool
home_lacks g (H.Slot x) = not (eqb x g)
home_lacks g (H.Global n) = true

abbrev mutual
  -- an expression doesn't name the slot
  pub lacks : ℕ → ExpressionTree → Bool
  lacks g (Typed kind node) = node_lacks g node

  pub place_lacks : ℕ → PlaceTree → Bool
  place_lacks g (Var h) = home_lacks g h
  place_lacks g (Cell h a) = home_lacks g h && lacks g a

  pub node_lacks : ℕ → NodeTree → Bool
  node_lacks g (Array h) = home_lacks g h
  node_lacks g (Read p) = place_lacks g p
  node_lacks g (Unary op a) = lacks g a
  node_lacks g (Cast a) = lacks g a
  node_lacks g (Binary op a b) = lacks g a && lacks g b
  node_lacks g (Conditional a b c) = lacks g a && (lacks g b && lacks g c)
  node_lacks g (Assign p a) = place_lacks g p && lacks g a
  node_lacks g (Update op p a) = place_lacks g p && lacks g a
  node_lacks g (Count p up after) = place_lacks g p
  node_lacks g (Comma a b) = lacks g a && lacks g b
  node_lacks g (Call f xs) = arguments_lack g xs
  node_lacks g _ = true

  pub arguments_lack : ℕ → Arguments → Bool
  arguments_lack g NoArgument = true
  arguments_lack g (Argument x xs) = lacks g x && arguments_lack g xs

abbrev pub test_lacks : ℕ → TestTree → Bool
test_lacks g (Source e) = lacks g e
test_lacks g (AndOff l t) = test_lacks g t
test_lacks g (OrOn l t) = test_lacks g t
test_lacks g _ = true

abbrev pub selector_lacks : ℕ → SelectorTree → Bool
selector_lacks g (Selects e) = lacks g e
selector_lacks g (Pick l n s) = selector_lacks g s

abbrev pub all_lack : ℕ → List ExpressionTree → Bool
all_lack g [] = true
all_lack g (e ∷ es) = lacks g e && all_lack g es

abbrev pub option_lacks : ℕ → Option ExpressionTree → Bool
option_lacks g None = true
option_lacks g (Some e) = lacks g e

abbrev pub values_lack : ℕ → Option (List ExpressionTree) → Bool
values_lack g None = true
values_lack g (Some es) = all_lack g es

abbrev mutual
  -- a list doesn't name the slot, at any depth; cases are constants, which name none
  pub list_lacks : ℕ → Forest → Bool
  list_lacks g Nil = true
  list_lacks g (Then x xs) = item_lacks g x && list_lacks g xs

  pub item_lacks : ℕ → Tree → Bool
  item_lacks g (Evaluate e) = lacks g e
  item_lacks g (Return e) = option_lacks g e
  item_lacks g (If t a b) = test_lacks g t && (list_lacks g a && list_lacks g b)
  item_lacks g (While t a) = test_lacks g t && list_lacks g a
  item_lacks g (Do a t) = list_lacks g a && test_lacks g t
  item_lacks g (For f t u a) = list_lacks g f && (option_lacks g t && (option_lacks g u && list_lacks g a))
  item_lacks g (Switch s c) = selector_lacks g s && sections_lack g c
  item_lacks g (Block a) = list_lacks g a
  item_lacks g (Local x es) = not (eqb x g) && values_lack g es
  item_lacks g (Arm l e) = option_lacks g e
  item_lacks g _ = true

  pub sections_lack : ℕ → Sections → Bool
  sections_lack g NoSection = true
  sections_lack g (Section cases default a ends c) = list_lacks g a && sections_lack g c

-- Expressions and items whose slots have other numbers.
use Rattle.std.specs.Prelude.{ℕ, List, map, Option, option_map}
use Rattle.c_tree.specs.declared.tree.Home.{Home}
use Rattle.c_tree.specs.declared.tree.Home.TheVariants as H
use Rattle.c_tree.specs.ExpressionTrees.{ExpressionTree, PlaceTree, NodeTree, Arguments, Typed, Var, Cell, Array, Read, Unary, Cast, Binary, Conditional, Assign, Update, Count, Comma, Call, NoArgument, Argument}
use Rattle.c_tree.specs.TestTrees.{TestTree, Source, AndOff, OrOn, SelectorTree, Selects, Pick}
use Rattle.c_tree.specs.Trees.{Tree, Forest, Nil, Then, Sections, NoSection, Section, Evaluate, Return, If, While, Do, For, Switch, Block, Local, Arm}

abbrev pub renamed_home : (ℕ → ℕ) → Home → Home
renamed_home r (H.Slot x) = H.Slot (r x)
renamed_home r (H.Global m) = H.Global m

abbrev mutual
  pub renamed : (ℕ → ℕ) → ExpressionTree → ExpressionTree
  renamed r (Typed kind node) = Typed kind (renamed_node r node)

  pub renamed_place : (ℕ → ℕ) → PlaceTree → PlaceTree
  renamed_place r (Var h) = Var (renamed_home r h)
  renamed_place r (Cell h a) = Cell (renamed_home r h) (renamed r a)

  pub renamed_node : (ℕ → ℕ) → NodeTree → NodeTree
  renamed_node r (Array h) = Array (renamed_home r h)
  renamed_node r (Read p) = Read (renamed_place r p)
  renamed_node r (Unary op a) = Unary op (renamed r a)
  renamed_node r (Cast a) = Cast (renamed r a)
  renamed_node r (Binary op a b) = Binary op (renamed r a) (renamed r b)
  renamed_node r (Conditional a b c) = Conditional (renamed r a) (renamed r b) (renamed r c)
  renamed_node r (Assign p a) = Assign (renamed_place r p) (renamed r a)
  renamed_node r (Update op p a) = Update op (renamed_place r p) (renamed r a)
  renamed_node r (Count p up after) = Count (renamed_place r p) up after
  renamed_node r (Comma a b) = Comma (renamed r a) (renamed r b)
  renamed_node r (Call m xs) = Call m (renamed_arguments r xs)
  renamed_node r x = x

  pub renamed_arguments : (ℕ → ℕ) → Arguments → Arguments
  renamed_arguments r NoArgument = NoArgument
  renamed_arguments r (Argument x xs) = Argument (renamed r x) (renamed_arguments r xs)

abbrev pub renamed_test : (ℕ → ℕ) → TestTree → TestTree
renamed_test r (Source e) = Source (renamed r e)
renamed_test r (AndOff l t) = AndOff l (renamed_test r t)
renamed_test r (OrOn l t) = OrOn l (renamed_test r t)
renamed_test r t = t

abbrev pub renamed_selector : (ℕ → ℕ) → SelectorTree → SelectorTree
renamed_selector r (Selects e) = Selects (renamed r e)
renamed_selector r (Pick l n s) = Pick l n (renamed_selector r s)

abbrev pub renamed_option : (ℕ → ℕ) → Option ExpressionTree → Option ExpressionTree
renamed_option r e = option_map (renamed r) e

abbrev pub renamed_values : (ℕ → ℕ) → Option (List ExpressionTree) → Option (List ExpressionTree)
renamed_values r es = option_map (map (renamed r)) es

abbrev mutual
  -- a list with other numbers; cases are constants, which name no slot
  pub renamed_list : (ℕ → ℕ) → Forest → Forest
  renamed_list r Nil = Nil
  renamed_list r (Then x xs) = Then (renamed_item r x) (renamed_list r xs)

  pub renamed_item : (ℕ → ℕ) → Tree → Tree
  renamed_item r (Evaluate e) = Evaluate (renamed r e)
  renamed_item r (Return e) = Return (renamed_option r e)
  renamed_item r (If t a b) = If (renamed_test r t) (renamed_list r a) (renamed_list r b)
  renamed_item r (While t a) = While (renamed_test r t) (renamed_list r a)
  renamed_item r (Do a t) = Do (renamed_list r a) (renamed_test r t)
  renamed_item r (For f t u a) = For (renamed_list r f) (renamed_option r t) (renamed_option r u) (renamed_list r a)
  renamed_item r (Switch s c) = Switch (renamed_selector r s) (renamed_sections r c)
  renamed_item r (Block a) = Block (renamed_list r a)
  renamed_item r (Local x es) = Local (r x) (renamed_values r es)
  renamed_item r (Arm l e) = Arm l (renamed_option r e)
  renamed_item r x = x

  pub renamed_sections : (ℕ → ℕ) → Sections → Sections
  renamed_sections r NoSection = NoSection
  renamed_sections r (Section cases default a ends c) = Section cases default (renamed_list r a) ends (renamed_sections r c)

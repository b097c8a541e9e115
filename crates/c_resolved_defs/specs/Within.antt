-- Facts of all elements of a list, of each part of an expression, and of each expression of an item.
use Rattle.std.specs.Prelude.{◌≢◌, List, [], ◌∷◌, IfSome}
use Rattle.std.specs.List.{AllByRecursion}
use Rattle.c_tree.specs.ExpressionTrees.{ExpressionTree, PlaceTree, NodeTree, Arguments, Typed, Var, Cell, Read, Unary, Cast, Binary, Conditional, Assign, Update, Count, Comma, Call, NoArgument, Argument}
use Rattle.c_tree.specs.TestTrees.{TestTree, Source, AndOff, OrOn}
use Rattle.c_tree.specs.Trees.{Tree, Sections, NoSection, Section, Evaluate, Return, If, While, Do, For, Switch, Local, Arm, Arrival}
use Rattle.c_tree.specs.Cases.{selector_source}

-- a fact of each element of a list
abbrev pub Each : {A : Type 0} → (A → Type 0) → List A → Type 0
Each P xs = AllByRecursion P xs

-- no element of a list stands in it twice
abbrev pub AllDiffer : {A : Type 0} → List A → Type 0
AllDiffer [] = Unit {0}
AllDiffer (x ∷ xs) = Each (λ y. y ≢ x) xs × AllDiffer xs

abbrev mutual
  -- a fact of an expression, and of each that stands in it
  pub Within : (ExpressionTree → Type 0) → ExpressionTree → Type 0
  Within P (Typed kind node) = P (Typed kind node) × NodeWithin P node

  pub NodeWithin : (ExpressionTree → Type 0) → NodeTree → Type 0
  NodeWithin P (Read at) = PlaceWithin P at
  NodeWithin P (Unary op a) = Within P a
  NodeWithin P (Cast a) = Within P a
  NodeWithin P (Binary op a b) = Within P a × Within P b
  NodeWithin P (Conditional a b c) = Within P a × Within P b × Within P c
  NodeWithin P (Assign at a) = PlaceWithin P at × Within P a
  NodeWithin P (Update op at a) = PlaceWithin P at × Within P a
  NodeWithin P (Count at up after) = PlaceWithin P at
  NodeWithin P (Comma a b) = Within P a × Within P b
  NodeWithin P (Call m xs) = ArgumentsWithin P xs
  NodeWithin P _ = Unit {0}

  pub PlaceWithin : (ExpressionTree → Type 0) → PlaceTree → Type 0
  PlaceWithin P (Var h) = Unit {0}
  PlaceWithin P (Cell h a) = Within P a

  pub ArgumentsWithin : (ExpressionTree → Type 0) → Arguments → Type 0
  ArgumentsWithin P NoArgument = Unit {0}
  ArgumentsWithin P (Argument x xs) = Within P x × ArgumentsWithin P xs

-- a fact of the source expression of a test, if it has one
abbrev pub TestExpression : (ExpressionTree → Type 0) → TestTree → Type 0
TestExpression P (Source e) = P e
TestExpression P (AndOff l t) = TestExpression P t
TestExpression P (OrOn l t) = TestExpression P t
TestExpression P _ = Unit {0}

-- of the constants of the cases of sections
abbrev pub CaseExpressions : (ExpressionTree → Type 0) → Sections → Type 0
CaseExpressions P NoSection = Unit {0}
CaseExpressions P (Section cases default a ends c) = Each P cases × CaseExpressions P c

-- a fact of each expression of an item, apart from those of the items that stand in it
abbrev pub ItemExpressions : (ExpressionTree → Type 0) → Tree → Type 0
ItemExpressions P (Evaluate e) = P e
ItemExpressions P (Return e) = IfSome e P
ItemExpressions P (If t a b) = TestExpression P t
ItemExpressions P (While t a) = TestExpression P t
ItemExpressions P (Do a t) = TestExpression P t
ItemExpressions P (For first t u a) = IfSome t P × IfSome u P
ItemExpressions P (Switch s c) = P (selector_source s) × CaseExpressions P c
ItemExpressions P (Local k given) = IfSome given (Each P)
ItemExpressions P (Arm l e) = IfSome e P
ItemExpressions P (Arrival e) = IfSome e P
ItemExpressions P _ = Unit {0}

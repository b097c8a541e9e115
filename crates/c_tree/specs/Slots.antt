-- The slots that expressions and items name.
use Rattle.std.specs.Prelude.{ℕ, All, IfSome}
use Rattle.c_tree.specs.declared.tree.Home.{Home}
use Rattle.c_tree.specs.declared.tree.Home.TheVariants as H
use Rattle.c_tree.specs.ExpressionTrees.{ExpressionTree, PlaceTree, NodeTree, Arguments, Typed, Var, Cell, Array, Read, Unary, Cast, Binary, Conditional, Assign, Update, Count, Comma, Call, NoArgument, Argument}
use Rattle.c_tree.specs.TestTrees.{TestTree, Source, AndOff, OrOn, SelectorTree, Selects, Pick}
use Rattle.c_tree.specs.Trees.{Tree, Sections, NoSection, Section, Evaluate, Return, If, While, Do, For, Switch, Local, Arm, Arrival}

abbrev pub HomeSlots : (ℕ → Type 0) → Home → Type 0
HomeSlots P (H.Slot x) = P x
HomeSlots P (H.Global n) = Unit {0}

abbrev mutual
  -- a fact holds of each slot that an expression names
  pub ExpressionSlots : (ℕ → Type 0) → ExpressionTree → Type 0
  ExpressionSlots P (Typed kind node) = NodeSlots P node

  pub PlaceSlots : (ℕ → Type 0) → PlaceTree → Type 0
  PlaceSlots P (Var h) = HomeSlots P h
  PlaceSlots P (Cell h a) = HomeSlots P h × ExpressionSlots P a

  pub NodeSlots : (ℕ → Type 0) → NodeTree → Type 0
  NodeSlots P (Array h) = HomeSlots P h
  NodeSlots P (Read p) = PlaceSlots P p
  NodeSlots P (Unary op a) = ExpressionSlots P a
  NodeSlots P (Cast a) = ExpressionSlots P a
  NodeSlots P (Binary op a b) = ExpressionSlots P a × ExpressionSlots P b
  NodeSlots P (Conditional a b c) = ExpressionSlots P a × ExpressionSlots P b × ExpressionSlots P c
  NodeSlots P (Assign p a) = PlaceSlots P p × ExpressionSlots P a
  NodeSlots P (Update op p a) = PlaceSlots P p × ExpressionSlots P a
  NodeSlots P (Count p up after) = PlaceSlots P p
  NodeSlots P (Comma a b) = ExpressionSlots P a × ExpressionSlots P b
  NodeSlots P (Call f xs) = ArgumentSlots P xs
  NodeSlots P _ = Unit {0}

  pub ArgumentSlots : (ℕ → Type 0) → Arguments → Type 0
  ArgumentSlots P NoArgument = Unit {0}
  ArgumentSlots P (Argument x xs) = ExpressionSlots P x × ArgumentSlots P xs

abbrev pub TestSlots : (ℕ → Type 0) → TestTree → Type 0
TestSlots P (Source e) = ExpressionSlots P e
TestSlots P (AndOff l t) = TestSlots P t
TestSlots P (OrOn l t) = TestSlots P t
TestSlots P _ = Unit {0}

abbrev pub SelectorSlots : (ℕ → Type 0) → SelectorTree → Type 0
SelectorSlots P (Selects e) = ExpressionSlots P e
SelectorSlots P (Pick l k s) = SelectorSlots P s

abbrev pub CaseSlots : (ℕ → Type 0) → Sections → Type 0
CaseSlots P NoSection = Unit {0}
CaseSlots P (Section cases default a ends c) = All (ExpressionSlots P) cases × CaseSlots P c

-- a fact holds of each slot that an item names, apart from the items that stand in it
abbrev pub ItemSlots : (ℕ → Type 0) → Tree → Type 0
ItemSlots P (Evaluate e) = ExpressionSlots P e
ItemSlots P (Return e) = IfSome e (ExpressionSlots P)
ItemSlots P (If t a b) = TestSlots P t
ItemSlots P (While t a) = TestSlots P t
ItemSlots P (Do a t) = TestSlots P t
ItemSlots P (For first t u a) = IfSome t (ExpressionSlots P) × IfSome u (ExpressionSlots P)
ItemSlots P (Switch s c) = SelectorSlots P s × CaseSlots P c
ItemSlots P (Local x es) = P x × IfSome es (All (ExpressionSlots P))
ItemSlots P (Arm l e) = IfSome e (ExpressionSlots P)
ItemSlots P (Arrival e) = IfSome e (ExpressionSlots P)
ItemSlots P _ = Unit {0}

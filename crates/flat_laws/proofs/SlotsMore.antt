-- A fact of all slots that an expression names, from a stronger one.
use Rattle.std.proofs.Common.{ℕ, List, [], ◌∷◌}
use Rattle.c_tree.specs.declared.tree.Home.{Home}
use Rattle.c_tree.specs.declared.tree.Home.TheVariants as H
use Rattle.c_tree.specs.ExpressionTrees.{ExpressionTree, PlaceTree, NodeTree, Arguments, Typed, Var, Cell, Array, Read, Unary, Cast, Binary, Conditional, Assign, Update, Count, Comma, Call, NoArgument, Argument}
use Rattle.c_tree.specs.Slots.{HomeSlots, ExpressionSlots, PlaceSlots, NodeSlots, ArgumentSlots}
use Rattle.jump_meaning.specs.Effects.{Op, Computes, Finds, Indexes, Ands, Ors, Decides, Begins, Sets, Clears}
use Rattle.flat_laws.proofs.Effects.{OpSlots, EachSlots}

module _ (P Q : ℕ → Type 0) (more : (x : ℕ) → P x → Q x) where
  home_more : (h : Home) → HomeSlots P h → HomeSlots Q h
  home_more (H.Global m) i = tt
  home_more (H.Slot x) i = more x i

  mutual
    pub expression_more : (e : ExpressionTree) → ExpressionSlots P e → ExpressionSlots Q e
    expression_more (Typed k n) i = node_more n i

    place_more : (p : PlaceTree) → PlaceSlots P p → PlaceSlots Q p
    place_more (Var h) i = home_more h i
    place_more (Cell h e) i = (home_more h i.0, expression_more e i.1)

    node_more : (n : NodeTree) → NodeSlots P n → NodeSlots Q n
    node_more (Array h) i = home_more h i
    node_more (Read p) i = place_more p i
    node_more (Unary op a) i = expression_more a i
    node_more (Cast a) i = expression_more a i
    node_more (Binary op a b) i = (expression_more a i.0, expression_more b i.1)
    node_more (Conditional a b c) i = (expression_more a i.0, expression_more b i.1, expression_more c i.2)
    node_more (Assign p a) i = (place_more p i.0, expression_more a i.1)
    node_more (Update op p a) i = (place_more p i.0, expression_more a i.1)
    node_more (Count p up after) i = place_more p i
    node_more (Comma a b) i = (expression_more a i.0, expression_more b i.1)
    node_more (Call f xs) i = arguments_more xs i
    node_more _ i = tt

    arguments_more : (xs : Arguments) → ArgumentSlots P xs → ArgumentSlots Q xs
    arguments_more NoArgument i = tt
    arguments_more (Argument x xs) i = (expression_more x i.0, arguments_more xs i.1)

  each_more : (es : List ExpressionTree) → EachSlots P es → EachSlots Q es
  each_more [] i = tt
  each_more (e ∷ es) i = (expression_more e i.0, each_more es i.1)

  pub op_more : (o : Op) → OpSlots P o → OpSlots Q o
  op_more (Computes e) i = expression_more e i
  op_more (Finds p) i = place_more p i
  op_more (Indexes h) i = home_more h i
  op_more (Ands b) i = expression_more b i
  op_more (Ors b) i = expression_more b i
  op_more (Decides b c k) i = (expression_more b i.0, expression_more c i.1)
  op_more (Begins x es) i = (more x i.0, each_more es i.1)
  op_more (Sets x j es) i = (more x i.0, each_more es i.1)
  op_more (Clears x n) i = more x i
  op_more _ i = tt

-- Expressions as plain data, in which definitions by cases read well.
use Rattle.std.specs.Prelude.{ℕ, ℤ, Bool, List, [], ◌∷◌, Option}
use Rattle.c_types.specs.declared.kinds.ArithOp.{ArithOp}
use Rattle.c_types.specs.declared.kinds.IntKind.{IntKind}
use Rattle.c_tree.specs.declared.tree.UnaryOp.{UnaryOp}
use Rattle.c_tree.specs.declared.tree.BinaryOp.{BinaryOp}
use Rattle.c_tree.specs.declared.tree.Home.{Home}
use Rattle.c_tree.specs.declared.tree.Expression.{Expression, Expression-F, fold-Expression}
use Rattle.c_tree.specs.declared.tree.Place.{Place, fold-Place}
use Rattle.c_tree.specs.declared.tree.Node.{Node, fold-Node}
use Rattle.c_tree.specs.declared.tree.Node.TheOpen as Open

mutual
  -- an expression: its kind, if it has a value, and its form
  pub data ExpressionTree : Type 0 where
    Typed : Option IntKind → NodeTree → ExpressionTree

  pub data PlaceTree : Type 0 where
    Var : Home → PlaceTree
    Cell : Home → ExpressionTree → PlaceTree

  pub data NodeTree : Type 0 where
    Number : ℤ → NodeTree
    Character : ℕ → NodeTree
    EnumName : List ℕ → ℤ → NodeTree
    Text : List ℕ → NodeTree
    Array : Home → NodeTree
    Read : PlaceTree → NodeTree
    Unary : UnaryOp → ExpressionTree → NodeTree
    Cast : ExpressionTree → NodeTree
    Binary : BinaryOp → ExpressionTree → ExpressionTree → NodeTree
    Conditional : ExpressionTree → ExpressionTree → ExpressionTree → NodeTree
    Assign : PlaceTree → ExpressionTree → NodeTree
    Update : ArithOp → PlaceTree → ExpressionTree → NodeTree
    Count : PlaceTree → Bool → Bool → NodeTree
    Comma : ExpressionTree → ExpressionTree → NodeTree
    Call : List ℕ → Arguments → NodeTree

  pub data Arguments : Type 0 where
    NoArgument : Arguments
    Argument : ExpressionTree → Arguments → Arguments

abbrev pub arguments : List ExpressionTree → Arguments
arguments [] = NoArgument
arguments (x ∷ xs) = Argument x (arguments xs)

abbrev pub node_layer : Open.Node-F NodeTree PlaceTree ExpressionTree → NodeTree
node_layer (Open.Number n) = Number n
node_layer (Open.Character b) = Character b
node_layer (Open.EnumName m n) = EnumName m n
node_layer (Open.Text bs) = Text bs
node_layer (Open.Array h) = Array h
node_layer (Open.Read p) = Read p
node_layer (Open.Unary op a) = Unary op a
node_layer (Open.Cast a) = Cast a
node_layer (Open.Binary op a b) = Binary op a b
node_layer (Open.Conditional a b c) = Conditional a b c
node_layer (Open.Assign p a) = Assign p a
node_layer (Open.Update op p a) = Update op p a
node_layer (Open.Count p up after) = Count p up after
node_layer (Open.Comma a b) = Comma a b
node_layer (Open.Call f xs) = Call f (arguments xs)

abbrev pub place_layer : Open.Place-F NodeTree PlaceTree ExpressionTree → PlaceTree
place_layer (Open.Var h) = Var h
place_layer (Open.Cell h a) = Cell h a

abbrev pub expression_layer : Expression-F NodeTree PlaceTree ExpressionTree → ExpressionTree
expression_layer e = Typed e.kind e.node

unfoldable pub expression_tree : Expression → ExpressionTree
expression_tree e = fold-Expression NodeTree PlaceTree ExpressionTree node_layer place_layer expression_layer e

unfoldable pub node_tree : Node → NodeTree
node_tree e = fold-Node NodeTree PlaceTree ExpressionTree node_layer place_layer expression_layer e

unfoldable pub place_tree : Place → PlaceTree
place_tree p = fold-Place NodeTree PlaceTree ExpressionTree node_layer place_layer expression_layer p

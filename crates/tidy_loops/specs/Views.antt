-- The one layer of an expression and of a test as plain data, and the slots that they read.
use Rattle.std.specs.Prelude.{ℕ, Bool, true, false, cond, ◌&&◌, map, Option, Some, None, eqb}
use Rattle.std.specs.Option.{option_map_or}
use Rattle.c_types.specs.declared.kinds.IntKind.{IntKind}
use Rattle.c_types.specs.declared.kinds.IntKind.TheVariants.{Int}
use Rattle.c_tree.specs.declared.tree.UnaryOp.{UnaryOp}
use Rattle.c_tree.specs.declared.tree.UnaryOp.TheVariants.{Not}
use Rattle.c_tree.specs.declared.tree.Home.{Home}
use Rattle.c_tree.specs.declared.tree.Home.TheVariants as H
use Rattle.c_tree.specs.declared.tree.Expression.{Expression, out-Expression}
use Rattle.c_tree.specs.declared.tree.Place.{Place}
use Rattle.c_tree.specs.declared.tree.Node.{Node, Node-F, out-Node}
use Rattle.c_tree.specs.declared.tree.Node.TheOpen as O
use Rattle.c_tree.specs.declared.tree.Test.{Test, Test-F, out-Test}
use Rattle.c_tree.specs.declared.tree.Test.TheOpen as T
use Rattle.c_tree.specs.ExpressionTrees.{ExpressionTree, PlaceTree, NodeTree, Typed, Var, Number, Character, EnumName, Text, Array, Read, Unary, Cast, Binary, Conditional, Assign, Update, Count, Comma, Call, arguments, expression_tree, place_tree}
use Rattle.tidy_laws.specs.Mentions.{lacks}
use Rattle.tidy_laws.specs.Changes.{is_narrow_expression}
use Rattle.c_tree.specs.TestTrees.{TestTree, Source, On, Off, AndOff, OrOn, test_tree}

abbrev pub node_layer_at : Node-F Node Place Expression → NodeTree
node_layer_at (O.Number n) = Number n
node_layer_at (O.Character b) = Character b
node_layer_at (O.EnumName m n) = EnumName m n
node_layer_at (O.Text bs) = Text bs
node_layer_at (O.Array h) = Array h
node_layer_at (O.Read p) = Read (place_tree p)
node_layer_at (O.Unary op a) = Unary op (expression_tree a)
node_layer_at (O.Cast a) = Cast (expression_tree a)
node_layer_at (O.Binary op a b) = Binary op (expression_tree a) (expression_tree b)
node_layer_at (O.Conditional a b c) = Conditional (expression_tree a) (expression_tree b) (expression_tree c)
node_layer_at (O.Assign p a) = Assign (place_tree p) (expression_tree a)
node_layer_at (O.Update op p a) = Update op (place_tree p) (expression_tree a)
node_layer_at (O.Count p up after) = Count (place_tree p) up after
node_layer_at (O.Comma a b) = Comma (expression_tree a) (expression_tree b)
node_layer_at (O.Call f xs) = Call f (arguments (map expression_tree xs))

-- the tree of a node
abbrev pub node_at : Node → NodeTree
node_at n = node_layer_at (out-Node n)

-- the tree of an expression
abbrev pub expression_at : Expression → ExpressionTree
expression_at e = let o = out-Expression e in Typed o.kind (node_at o.node)

abbrev pub test_layer_at : Test-F Test → TestTree
test_layer_at (T.Source e) = Source (expression_tree e)
test_layer_at (T.On l) = On l
test_layer_at (T.Off l) = Off l
test_layer_at (T.AndOff l t) = AndOff l (test_tree t)
test_layer_at (T.OrOn l t) = OrOn l (test_tree t)

-- the tree of a test
abbrev pub test_at : Test → TestTree
test_at t = test_layer_at (out-Test t)

-- ---- slots

abbrev pub home_slot : Home → Option ℕ
home_slot (H.Slot x) = Some x
home_slot (H.Global m) = None

-- the slot of a variable that is a number
abbrev pub place_slot : PlaceTree → Option ℕ
place_slot (Var h) = home_slot h
place_slot _ = None

-- the slot that is read
abbrev pub read_slot : ExpressionTree → Option ℕ
read_slot (Typed k (Read p)) = place_slot p
read_slot _ = None

-- the slot g of a `!g` with this mark
abbrev pub unary_off : UnaryOp → ExpressionTree → Option ℕ
unary_off Not e = read_slot e
unary_off _ e = None

-- the slot g of `!g`
abbrev pub off_slot : ExpressionTree → Option ℕ
off_slot (Typed k (Unary op e)) = unary_off op e
off_slot _ = None

-- whether it is this slot
abbrev pub is_it : ℕ → Option ℕ → Bool
is_it g s = option_map_or (λ x. eqb x g) s false

abbrev pub is_int_kind : Option IntKind → Bool
is_int_kind (Some Int) = true
is_int_kind _ = false

-- what a set of the slot in such a place has as its value
abbrev pub value_for : ℕ → PlaceTree → ExpressionTree → Option ExpressionTree
value_for g p e = cond (is_it g (place_slot p) && (is_narrow_expression e && lacks g e)) (Some e) None

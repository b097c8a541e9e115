-- The one layer of an expression as plain data: a contract that says what an expression gives by its tree can be proved
-- arm by arm where it takes the tree in this form.
use Rattle.std.specs.Prelude.{◌≡◌, ◌+◌, ◌<◌, ℕ, map, Option, MatchOption}
use Rattle.c_tree.specs.declared.tree.Expression.{Expression}
use Rattle.c_tree.specs.declared.tree.Place.{Place, out-Place}
use Rattle.c_tree.specs.declared.tree.Node.{Node, Node-F, out-Node}
use Rattle.c_tree.specs.declared.tree.Node.TheOpen as O
use Rattle.c_tree.specs.ExpressionTrees.{PlaceTree, NodeTree, Var, Cell, Number, Character, EnumName, Text, Array, Read, Unary, Cast, Binary, Conditional, Assign, Update, Count, Comma, Call, arguments, expression_tree}

abbrev pub place_layer_at : O.Place-F Node Place Expression → PlaceTree
place_layer_at (O.Var h) = Var h
place_layer_at (O.Cell h a) = Cell h (expression_tree a)

-- the tree of a place
abbrev pub place_at : Place → PlaceTree
place_at p = place_layer_at (out-Place p)

abbrev pub node_layer_at : Node-F Node Place Expression → NodeTree
node_layer_at (O.Number n) = Number n
node_layer_at (O.Character b) = Character b
node_layer_at (O.EnumName m n) = EnumName m n
node_layer_at (O.Text bs) = Text bs
node_layer_at (O.Array h) = Array h
node_layer_at (O.Read p) = Read (place_at p)
node_layer_at (O.Unary op a) = Unary op (expression_tree a)
node_layer_at (O.Cast a) = Cast (expression_tree a)
node_layer_at (O.Binary op a b) = Binary op (expression_tree a) (expression_tree b)
node_layer_at (O.Conditional a b c) = Conditional (expression_tree a) (expression_tree b) (expression_tree c)
node_layer_at (O.Assign p a) = Assign (place_at p) (expression_tree a)
node_layer_at (O.Update op p a) = Update op (place_at p) (expression_tree a)
node_layer_at (O.Count p up after) = Count (place_at p) up after
node_layer_at (O.Comma a b) = Comma (expression_tree a) (expression_tree b)
node_layer_at (O.Call f xs) = Call f (arguments (map expression_tree xs))

-- the tree of a node
abbrev pub node_at : Node → NodeTree
node_at n = node_layer_at (out-Node n)

-- what is left of the room once so much of it is taken, if there is so much
abbrev pub Spends : ℕ → ℕ → Option ℕ → Type 0
Spends n room result = MatchOption result (room < n) (λ left. left + n ≡ room)

-- The trees of expressions by their layers.
use Rattle.std.proofs.Common.{◌≡◌, Option, None, refl, sym, ap, ◌∙◌}
use Rattle.c_types.specs.declared.kinds.IntKind.{IntKind}
use Rattle.c_tree.specs.declared.tree.Expression.{Expression, out-Expression}
use Rattle.c_tree.specs.declared.tree.Place.{Place, out-Place, roll-Place, roll-out-Place, map-Place, fold-roll-Place}
use Rattle.c_tree.specs.declared.tree.Node.{Node, Node-F, out-Node, roll-Node, roll-out-Node, map-Node, fold-roll-Node}
use Rattle.c_tree.specs.declared.tree.Node.TheOpen as O
use Rattle.c_tree.specs.ExpressionTrees.{ExpressionTree, PlaceTree, NodeTree, Typed, Read, Binary, Conditional, Assign, Update, Count, Comma, node_layer, place_layer, expression_layer, expression_tree, node_tree, place_tree}
use Rattle.c_tree.proofs.ExpressionLaws.{expression-parts}
use Rattle.c_resolved_defs.specs.PrintableExpressions.{level_of, counted, node_counted}
use Rattle.print_limits.specs.Views.{node_layer_at, node_at, place_layer_at, place_at}

same_place : (y : O.Place-F Node Place Expression) → place_layer
    (map-Place Node Place Expression NodeTree PlaceTree ExpressionTree node_tree place_tree expression_tree y) ≡ place_layer_at y
same_place (O.Var h) = refl
same_place (O.Cell h a) = refl

rolls_place : (y : O.Place-F Node Place Expression) → place_tree (roll-Place y) ≡ place_layer
    (map-Place Node Place Expression NodeTree PlaceTree ExpressionTree node_tree place_tree expression_tree y)
unfolding node_tree place_tree expression_tree
rolls_place y = fold-roll-Place NodeTree PlaceTree ExpressionTree node_layer place_layer expression_layer y

pub place-is : (p : Place) → place_tree p ≡ place_at p
place-is p = ap place_tree (sym (roll-out-Place p)) ∙ rolls_place (out-Place p) ∙ same_place (out-Place p)

same_layer : (y : Node-F Node Place Expression) → node_layer
    (map-Node Node Place Expression NodeTree PlaceTree ExpressionTree node_tree place_tree expression_tree y) ≡ node_layer_at y
same_layer (O.Number n) = refl
same_layer (O.Character b) = refl
same_layer (O.EnumName m n) = refl
same_layer (O.Text bs) = refl
same_layer (O.Array h) = refl
same_layer (O.Read p) = ap Read (place-is p)
same_layer (O.Unary op a) = refl
same_layer (O.Cast a) = refl
same_layer (O.Binary op a b) = refl
same_layer (O.Conditional a b c) = refl
same_layer (O.Assign p a) = ap (λ z. Assign z (expression_tree a)) (place-is p)
same_layer (O.Update op p a) = ap (λ z. Update op z (expression_tree a)) (place-is p)
same_layer (O.Count p up after) = ap (λ z. Count z up after) (place-is p)
same_layer _ = refl

rolls : (y : Node-F Node Place Expression) → node_tree (roll-Node y) ≡ node_layer
    (map-Node Node Place Expression NodeTree PlaceTree ExpressionTree node_tree place_tree expression_tree y)
unfolding node_tree place_tree expression_tree
rolls y = fold-roll-Node NodeTree PlaceTree ExpressionTree node_layer place_layer expression_layer y

pub node-is : (n : Node) → node_tree n ≡ node_at n
node-is n = ap node_tree (sym (roll-out-Node n)) ∙ rolls (out-Node n) ∙ same_layer (out-Node n)

any_kind : (k j : Option IntKind) (n : NodeTree) → level_of (Typed k n) ≡ level_of (Typed j n)
any_kind k j (Binary op a b) = refl
any_kind k j (Conditional a b c) = refl
any_kind k j (Assign p a) = refl
any_kind k j (Update op p a) = refl
any_kind k j (Comma a b) = refl
any_kind k j _ = refl

pub level-is : (e : Expression) → level_of (expression_tree e) ≡ level_of (Typed None (node_at (out-Expression e).node))
level-is e = ap level_of (expression-parts e) ∙ any_kind (out-Expression e).kind None (node_tree (out-Expression e).node) ∙
    ap (λ n. level_of (Typed None n)) (node-is (out-Expression e).node)

pub counted-is : (e : Expression) → counted (expression_tree e) ≡ node_counted (node_at (out-Expression e).node)
counted-is e = ap counted (expression-parts e) ∙ ap node_counted (node-is (out-Expression e).node)

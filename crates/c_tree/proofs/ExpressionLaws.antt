-- What the plain tree of each kind of expression, test and selector is.
use Rattle.std.proofs.Common.{ℕ, ℤ, Bool, List, map, ◌≡◌, ap, sym, ◌∙◌}
use Rattle.c_types.specs.declared.kinds.ArithOp.{ArithOp}
use Rattle.c_tree.specs.declared.tree.UnaryOp.{UnaryOp}
use Rattle.c_tree.specs.declared.tree.BinaryOp.{BinaryOp}
use Rattle.c_tree.specs.declared.tree.Home.{Home}
use Rattle.c_tree.specs.declared.tree.Expression.{Expression, out-Expression, roll-out-Expression, fold-Expression, fold-roll-Expression}
use Rattle.c_tree.specs.declared.tree.Place.{Place, Var, Cell, fold-roll-Place}
use Rattle.c_tree.specs.declared.tree.Place.TheVariants.{rolls-Var, rolls-Cell}
use Rattle.c_tree.specs.declared.tree.Node.{Number, Character, EnumName, Text, Array, Read, Unary, Cast, Binary, Conditional, Assign, Update, Count, Comma, Call, fold-roll-Node}
use Rattle.c_tree.specs.declared.tree.Node.TheVariants.{rolls-Number, rolls-Character, rolls-EnumName, rolls-Text, rolls-Array, rolls-Read, rolls-Unary, rolls-Cast, rolls-Binary, rolls-Conditional, rolls-Assign, rolls-Update, rolls-Count, rolls-Comma, rolls-Call}
use Rattle.c_tree.specs.declared.tree.Node.TheOpen as Open
use Rattle.c_tree.specs.declared.tree.Test.{Test, Source, On, Off, AndOff, OrOn, fold-roll-Test}
use Rattle.c_tree.specs.declared.tree.Test.TheVariants.{rolls-Source, rolls-On, rolls-Off, rolls-AndOff, rolls-OrOn}
use Rattle.c_tree.specs.declared.tree.Test.TheOpen as OpenTest
use Rattle.c_tree.specs.declared.tree.Selector as Selects
use Rattle.c_tree.specs.declared.tree.Selector.TheVariants as SelectsRolls
use Rattle.c_tree.specs.declared.tree.Selector.TheOpen as OpenSelector
use Rattle.c_tree.specs.ExpressionTrees as Plain
use Rattle.c_tree.specs.ExpressionTrees.{ExpressionTree, PlaceTree, NodeTree, Typed, arguments, node_layer, place_layer, expression_layer, expression_tree, node_tree, place_tree}
use Rattle.c_tree.specs.TestTrees as PlainTest
use Rattle.c_tree.specs.TestTrees.{TestTree, SelectorTree, test_layer, selector_layer, test_tree, selector_tree}

pub expression-parts : (e : Expression) → let o = out-Expression e in expression_tree e ≡ Typed o.kind (node_tree o.node)
unfolding expression_tree node_tree
expression-parts e = ap (fold-Expression NodeTree PlaceTree ExpressionTree node_layer place_layer expression_layer) (sym (roll-out-Expression e)) ∙
    fold-roll-Expression NodeTree PlaceTree ExpressionTree node_layer place_layer expression_layer (out-Expression e)

pub place-Var : (h : Home) → place_tree (Var h) ≡ Plain.Var h
unfolding place_tree
place-Var h = ap place_tree (sym (rolls-Var h)) ∙ fold-roll-Place NodeTree PlaceTree ExpressionTree node_layer place_layer expression_layer (Open.Var h)

pub place-Cell : (h : Home) (a : Expression) → place_tree (Cell h a) ≡ Plain.Cell h (expression_tree a)
unfolding place_tree expression_tree
place-Cell h a = ap place_tree (sym (rolls-Cell h a)) ∙ fold-roll-Place NodeTree PlaceTree ExpressionTree node_layer place_layer expression_layer
    (Open.Cell h a)

pub node-Number : (n : ℤ) → node_tree (Number n) ≡ Plain.Number n
unfolding node_tree
node-Number n = ap node_tree (sym (rolls-Number n)) ∙ fold-roll-Node NodeTree PlaceTree ExpressionTree node_layer place_layer expression_layer (Open.Number n)

pub node-Character : (b : ℕ) → node_tree (Character b) ≡ Plain.Character b
unfolding node_tree
node-Character b = ap node_tree (sym (rolls-Character b)) ∙ fold-roll-Node NodeTree PlaceTree ExpressionTree node_layer place_layer expression_layer
    (Open.Character b)

pub node-EnumName : (m : List ℕ) (n : ℤ) → node_tree (EnumName m n) ≡ Plain.EnumName m n
unfolding node_tree
node-EnumName m n = ap node_tree (sym (rolls-EnumName m n)) ∙ fold-roll-Node NodeTree PlaceTree ExpressionTree node_layer place_layer expression_layer
    (Open.EnumName m n)

pub node-Text : (bs : List ℕ) → node_tree (Text bs) ≡ Plain.Text bs
unfolding node_tree
node-Text bs = ap node_tree (sym (rolls-Text bs)) ∙ fold-roll-Node NodeTree PlaceTree ExpressionTree node_layer place_layer expression_layer (Open.Text bs)

pub node-Array : (h : Home) → node_tree (Array h) ≡ Plain.Array h
unfolding node_tree
node-Array h = ap node_tree (sym (rolls-Array h)) ∙ fold-roll-Node NodeTree PlaceTree ExpressionTree node_layer place_layer expression_layer (Open.Array h)

pub node-Read : (p : Place) → node_tree (Read p) ≡ Plain.Read (place_tree p)
unfolding node_tree place_tree
node-Read p = ap node_tree (sym (rolls-Read p)) ∙ fold-roll-Node NodeTree PlaceTree ExpressionTree node_layer place_layer expression_layer (Open.Read p)

pub node-Unary : (op : UnaryOp) (a : Expression) → node_tree (Unary op a) ≡ Plain.Unary op (expression_tree a)
unfolding node_tree expression_tree
node-Unary op a = ap node_tree (sym (rolls-Unary op a)) ∙ fold-roll-Node NodeTree PlaceTree ExpressionTree node_layer place_layer expression_layer
    (Open.Unary op a)

pub node-Cast : (a : Expression) → node_tree (Cast a) ≡ Plain.Cast (expression_tree a)
unfolding node_tree expression_tree
node-Cast a = ap node_tree (sym (rolls-Cast a)) ∙ fold-roll-Node NodeTree PlaceTree ExpressionTree node_layer place_layer expression_layer (Open.Cast a)

pub node-Binary : (op : BinaryOp) (a : Expression) (b : Expression) → node_tree (Binary op a b) ≡ Plain.Binary op (expression_tree a) (expression_tree b)
unfolding node_tree expression_tree
node-Binary op a b = ap node_tree (sym (rolls-Binary op a b)) ∙ fold-roll-Node NodeTree PlaceTree ExpressionTree node_layer place_layer
    expression_layer (Open.Binary op a b)

pub node-Conditional : (a : Expression) (b : Expression) (c : Expression) →
    node_tree (Conditional a b c) ≡ Plain.Conditional (expression_tree a) (expression_tree b) (expression_tree c)
unfolding node_tree expression_tree
node-Conditional a b c = ap node_tree (sym (rolls-Conditional a b c)) ∙
    fold-roll-Node NodeTree PlaceTree ExpressionTree node_layer place_layer expression_layer (Open.Conditional a b c)

pub node-Assign : (p : Place) (a : Expression) → node_tree (Assign p a) ≡ Plain.Assign (place_tree p) (expression_tree a)
unfolding node_tree place_tree expression_tree
node-Assign p a = ap node_tree (sym (rolls-Assign p a)) ∙ fold-roll-Node NodeTree PlaceTree ExpressionTree node_layer place_layer expression_layer
    (Open.Assign p a)

pub node-Update : (op : ArithOp) (p : Place) (a : Expression) → node_tree (Update op p a) ≡ Plain.Update op (place_tree p) (expression_tree a)
unfolding node_tree place_tree expression_tree
node-Update op p a = ap node_tree (sym (rolls-Update op p a)) ∙ fold-roll-Node NodeTree PlaceTree ExpressionTree node_layer place_layer
    expression_layer (Open.Update op p a)

pub node-Count : (p : Place) (up : Bool) (after : Bool) → node_tree (Count p up after) ≡ Plain.Count (place_tree p) up after
unfolding node_tree place_tree
node-Count p up after = ap node_tree (sym (rolls-Count p up after)) ∙ fold-roll-Node NodeTree PlaceTree ExpressionTree node_layer place_layer
    expression_layer (Open.Count p up after)

pub node-Comma : (a : Expression) (b : Expression) → node_tree (Comma a b) ≡ Plain.Comma (expression_tree a) (expression_tree b)
unfolding node_tree expression_tree
node-Comma a b = ap node_tree (sym (rolls-Comma a b)) ∙ fold-roll-Node NodeTree PlaceTree ExpressionTree node_layer place_layer expression_layer
    (Open.Comma a b)

pub node-Call : (f : List ℕ) (xs : List Expression) → node_tree (Call f xs) ≡ Plain.Call f (arguments (map expression_tree xs))
unfolding node_tree expression_tree
node-Call f xs = ap node_tree (sym (rolls-Call f xs)) ∙ fold-roll-Node NodeTree PlaceTree ExpressionTree node_layer place_layer expression_layer
    (Open.Call f xs)

-- tests

pub test-Source : (e : Expression) → test_tree (Source e) ≡ PlainTest.Source (expression_tree e)
unfolding test_tree
test-Source e = ap test_tree (sym (rolls-Source e)) ∙ fold-roll-Test TestTree test_layer (OpenTest.Source e)

pub test-On : (l : ℕ) → test_tree (On l) ≡ PlainTest.On l
unfolding test_tree
test-On l = ap test_tree (sym (rolls-On l)) ∙ fold-roll-Test TestTree test_layer (OpenTest.On l)

pub test-Off : (l : ℕ) → test_tree (Off l) ≡ PlainTest.Off l
unfolding test_tree
test-Off l = ap test_tree (sym (rolls-Off l)) ∙ fold-roll-Test TestTree test_layer (OpenTest.Off l)

pub test-AndOff : (l : ℕ) (t : Test) → test_tree (AndOff l t) ≡ PlainTest.AndOff l (test_tree t)
unfolding test_tree
test-AndOff l t = ap test_tree (sym (rolls-AndOff l t)) ∙ fold-roll-Test TestTree test_layer (OpenTest.AndOff l t)

pub test-OrOn : (l : ℕ) (t : Test) → test_tree (OrOn l t) ≡ PlainTest.OrOn l (test_tree t)
unfolding test_tree
test-OrOn l t = ap test_tree (sym (rolls-OrOn l t)) ∙ fold-roll-Test TestTree test_layer (OpenTest.OrOn l t)

-- selectors

pub selector-Source : (e : Expression) → selector_tree (Selects.Source e) ≡ PlainTest.Selects (expression_tree e)
unfolding selector_tree
selector-Source e = ap selector_tree (sym (SelectsRolls.rolls-Source e)) ∙ Selects.fold-roll-Selector SelectorTree selector_layer (OpenSelector.Source e)

pub selector-Pick : (l : ℕ) (k : ℤ) (s : Selects.Selector) → selector_tree (Selects.Pick l k s) ≡ PlainTest.Pick l k (selector_tree s)
unfolding selector_tree
selector-Pick l k s = ap selector_tree (sym (SelectsRolls.rolls-Pick l k s)) ∙ Selects.fold-roll-Selector SelectorTree selector_layer (OpenSelector.Pick l k s)

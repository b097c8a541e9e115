-- The trees of expressions and tests by their one layer, and what is read from them.
use Rattle.std.proofs.Common.{ℕ, zero, suc, ◌+◌, ◌<◌, ◌≤◌, arith, Bool, true, false, not, cond, ◌&&◌, Option, Some, None, option_map, is_some, List, [], ◌∷◌, length, drop, get_or, ◌≡◌, refl, sym, ap, ◌∙◌}
use Rattle.c_tree.specs.declared.tree.Expression.{Expression, out-Expression}
use Rattle.c_tree.specs.declared.tree.Place.{Place}
use Rattle.c_tree.specs.declared.tree.Node.{Node, Node-F, out-Node, roll-Node, roll-out-Node}
use Rattle.c_tree.specs.declared.tree.Node.TheOpen as O
use Rattle.c_tree.specs.declared.tree.Node.TheVariants.{rolls-Number, rolls-Character, rolls-EnumName, rolls-Text, rolls-Array, rolls-Read, rolls-Unary, rolls-Cast, rolls-Binary, rolls-Conditional, rolls-Assign, rolls-Update, rolls-Count, rolls-Comma, rolls-Call}
use Rattle.c_tree.specs.declared.tree.Item.{Item}
use Rattle.c_tree.specs.declared.tree.Test as S
use Rattle.c_tree.specs.declared.tree.Test.{Test, Test-F, out-Test, roll-Test, roll-out-Test}
use Rattle.c_tree.specs.declared.tree.Test.TheOpen as T
use Rattle.c_tree.specs.declared.tree.Test.TheVariants.{rolls-Source, rolls-On, rolls-Off, rolls-AndOff, rolls-OrOn}
use Rattle.c_tree.specs.declared.tree.UnaryOp.TheVariants.{Not}
use Rattle.c_tree.specs.declared.tree.Home.TheVariants as H
use Rattle.c_tree.specs.ExpressionTrees.{ExpressionTree, PlaceTree, Typed, Var, Read, Unary, expression_tree, node_tree}
use Rattle.c_tree.specs.TestTrees.{TestTree, Source, test_tree}
use Rattle.c_tree.specs.Trees.{Forest, Nil, Then, If, trees_of}
use Rattle.c_tree.proofs.TreeLaws.{trees-none}
use Rattle.c_tree.specs.Views.{tree_at}
use Rattle.c_tree.proofs.Views.{trees-first, trees-at, trees-end}
use Rattle.c_tree.proofs.ExpressionLaws.{expression-parts, node-Number, node-Character, node-EnumName, node-Text, node-Array, node-Read, node-Unary, node-Cast, node-Binary, node-Conditional, node-Assign, node-Update, node-Count, node-Comma, node-Call, test-Source, test-On, test-Off, test-AndOff, test-OrOn}
use Rattle.tidy_laws.specs.Tails.{reads, is_off, is_check, is_end}
use Rattle.tidy_laws.specs.Mentions.{lacks}
use Rattle.tidy_laws.specs.Changes.{checks, is_narrow_expression}
use Rattle.tidy_loops.specs.Views.{node_layer_at, node_at, expression_at, test_layer_at, test_at, place_slot, read_slot, off_slot, is_it, value_for}

node_layers : (y : Node-F Node Place Expression) → node_tree (roll-Node y) ≡ node_layer_at y
node_layers (O.Number v) = ap node_tree (rolls-Number v) ∙ node-Number v
node_layers (O.Character b) = ap node_tree (rolls-Character b) ∙ node-Character b
node_layers (O.EnumName m v) = ap node_tree (rolls-EnumName m v) ∙ node-EnumName m v
node_layers (O.Text bs) = ap node_tree (rolls-Text bs) ∙ node-Text bs
node_layers (O.Array h) = ap node_tree (rolls-Array h) ∙ node-Array h
node_layers (O.Read p) = ap node_tree (rolls-Read p) ∙ node-Read p
node_layers (O.Unary op a) = ap node_tree (rolls-Unary op a) ∙ node-Unary op a
node_layers (O.Cast a) = ap node_tree (rolls-Cast a) ∙ node-Cast a
node_layers (O.Binary op a b) = ap node_tree (rolls-Binary op a b) ∙ node-Binary op a b
node_layers (O.Conditional a b c) = ap node_tree (rolls-Conditional a b c) ∙ node-Conditional a b c
node_layers (O.Assign p a) = ap node_tree (rolls-Assign p a) ∙ node-Assign p a
node_layers (O.Update op p a) = ap node_tree (rolls-Update op p a) ∙ node-Update op p a
node_layers (O.Count p up after) = ap node_tree (rolls-Count p up after) ∙ node-Count p up after
node_layers (O.Comma a b) = ap node_tree (rolls-Comma a b) ∙ node-Comma a b
node_layers (O.Call f xs) = ap node_tree (rolls-Call f xs) ∙ node-Call f xs

node_same : (n : Node) → node_tree n ≡ node_at n
node_same n = ap node_tree (sym (roll-out-Node n)) ∙ node_layers (out-Node n)

pub expression_same : (e : Expression) → expression_tree e ≡ expression_at e
expression_same e = expression-parts e ∙ ap (Typed (out-Expression e).kind) (node_same (out-Expression e).node)

test_layers : (y : Test-F Test) → test_tree (roll-Test y) ≡ test_layer_at y
test_layers (T.Source e) = ap test_tree (rolls-Source e) ∙ test-Source e
test_layers (T.On l) = ap test_tree (rolls-On l) ∙ test-On l
test_layers (T.Off l) = ap test_tree (rolls-Off l) ∙ test-Off l
test_layers (T.AndOff l t) = ap test_tree (rolls-AndOff l t) ∙ test-AndOff l t
test_layers (T.OrOn l t) = ap test_tree (rolls-OrOn l t) ∙ test-OrOn l t

pub test_same : (t : Test) → test_tree t ≡ test_at t
test_same t = ap test_tree (sym (roll-out-Test t)) ∙ test_layers (out-Test t)

reads_it : (g : ℕ) (e : ExpressionTree) → reads g e ≡ is_it g (read_slot e)
reads_it g (Typed k (Read (Var (H.Slot x)))) = refl
reads_it g (Typed k (Read (Var (H.Global m)))) = refl
reads_it g _ = refl

pub off_it : (g : ℕ) (e : ExpressionTree) → is_off g e ≡ is_it g (off_slot e)
off_it g (Typed k (Unary Not e)) = reads_it g e
off_it g _ = refl

pub check_if : (g : ℕ) (t : TestTree) (a b : Forest) → is_check g (If t a b) ≡ checks g t b
check_if g (Source e) a Nil = refl
check_if g (Source e) a (Then x xs) = refl
check_if g _ a b = refl

-- ---- the value of a set

pub value_when : (g : ℕ) (p : PlaceTree) (e : ExpressionTree) (a b c : Bool) → is_it g (place_slot p) ≡ a → is_narrow_expression e ≡ b →
    lacks g e ≡ c → value_for g p e ≡ cond (a && (b && c)) (Some e) None
value_when g p e a b c h i j = ap (λ z. cond (z && (is_narrow_expression e && lacks g e)) (Some e) None) h ∙
    ap (λ z. cond (a && (z && lacks g e)) (Some e) None) i ∙ ap (λ z. cond (a && (b && z)) (Some e) None) j

pub lacks_by : (n l b : Bool) → n ≡ not l → n ≡ not b → l ≡ b
lacks_by n true true e h = refl
lacks_by n true false e h = sym h ∙ e
lacks_by n false true e h = sym h ∙ e
lacks_by n false false e h = refl

-- ---- checks

pub at_source : (e : Expression) → test_at (S.Source e) ≡ Source (expression_tree e)
at_source e = sym (test_same (S.Source e)) ∙ test-Source e

pub check_alone : (g : ℕ) (t : Test) (e : Expression) (xs : List Item) → t ≡ S.Source e → xs ≡ [] →
    checks g (test_at t) (trees_of xs) ≡ is_it g (off_slot (expression_at e))
check_alone g t e xs h i =
    ap (λ z. checks g (test_at z) (trees_of xs)) h ∙ ap (λ z. checks g z (trees_of xs)) (at_source e) ∙
    ap (checks g (Source (expression_tree e))) (ap trees_of i ∙ trees-none)
    ∙ off_it g (expression_tree e) ∙ ap (λ z. is_it g (off_slot z)) (expression_same e)

pub check_beside : (g : ℕ) (t : Test) (e : Expression) (xs : List Item) → t ≡ S.Source e → (xs ≡ [] → ⊥) → checks g (test_at t) (trees_of xs) ≡ false
check_beside g t e [] h i = absurd (i refl)
check_beside g t e (x ∷ xs) h i =
    ap (λ z. checks g (test_at z) (trees_of (x ∷ xs))) h ∙ ap (λ z. checks g z (trees_of (x ∷ xs))) (at_source e) ∙
    ap (checks g (Source (expression_tree e))) (trees-first x xs)

-- ---- the place of a last item

pub end_none : (g i : ℕ) (xs : List Item) → i + 1 ≡ length xs → true ≡ is_end g (trees_of (drop (i + 1) xs))
end_none g i xs h = let k : length xs ≤ i + 1 = omega (arith, h) in sym (ap (is_end g) (trees-end xs (i + 1) k))

pub end_one : (g i : ℕ) (xs : List Item) (x : Item) → i + 2 ≡ length xs → x ≡ get_or xs (i + 1) x →
    is_check g (tree_at x) ≡ is_end g (trees_of (drop (i + 1) xs))
end_one g i xs x h e =
    let k : i + 1 < length xs = omega (arith, h) in
    let m : length xs ≤ i + 1 + 1 = omega (arith, h) in
    sym (ap (is_end g) (trees-at xs (i + 1) x k e ∙ ap (Then (tree_at x)) (trees-end xs (i + 1 + 1) m)))

an_item : (xs : List Item) (i : ℕ) → i < length xs → (x : Item) × (x ≡ get_or xs i x)
an_item [] i h = absurd (omega (arith, h))
an_item (y ∷ ys) zero h = (y, refl)
an_item (y ∷ ys) (suc i) h = let k : i < length ys = omega (arith, h) in an_item ys i k

pub end_more : (g i : ℕ) (xs : List Item) → i < length xs → (i + 1 ≡ length xs → ⊥) → (i + 2 ≡ length xs → ⊥) → false ≡ is_end g (trees_of (drop (i + 1) xs))
end_more g i xs h p q =
    let k : i + 1 < length xs = omega (arith, h, p) in
    let m : i + 1 + 1 < length xs = omega (arith, k, q) in
    let x = an_item xs (i + 1) k in
    let y = an_item xs (i + 1 + 1) m in
    sym (ap (is_end g) (trees-at xs (i + 1) x.0 k x.1 ∙ ap (Then (tree_at x.0)) (trees-at xs (i + 1 + 1) y.0 m y.1)))

-- ---- sets

pub is_some_map : {A B : Type 0} (f : A → B) (o : Option A) (p : Option B) → option_map f o ≡ p → is_some o ≡ is_some p
is_some_map f None p e = ap is_some e
is_some_map f (Some a) p e = ap is_some e

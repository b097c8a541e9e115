-- Whether an expression is a constant expression, at each form.
use Rattle.std.proofs.Common.{◌≡◌, ℕ, ℤ, List, true, false, ◌&&◌, is_some, sym, ap, ◌∙◌}
use Rattle.c_tree.specs.declared.tree.UnaryOp.{UnaryOp}
use Rattle.c_tree.specs.declared.tree.BinaryOp.{BinaryOp}
use Rattle.c_tree.specs.declared.tree.Expression.{Expression, out-Expression}
use Rattle.c_tree.specs.declared.tree.Place.{Place}
use Rattle.c_tree.specs.declared.tree.Node.{Node, Node-F, Number, Character, EnumName, Unary, Cast, Binary, Conditional, out-Node, roll-Node, roll-out-Node}
use Rattle.c_tree.specs.declared.tree.Node.TheVariants.{rolls-Number, rolls-Character, rolls-EnumName, rolls-Text, rolls-Array, rolls-Read, rolls-Unary, rolls-Cast, rolls-Binary, rolls-Conditional, rolls-Assign, rolls-Update, rolls-Count, rolls-Comma, rolls-Call}
use Rattle.c_tree.specs.declared.tree.Node.TheOpen as Open
use Rattle.c_tree.specs.ExpressionTrees.{expression_tree, node_tree}
use Rattle.c_tree.proofs.ExpressionLaws.{expression-parts, node-Number, node-Character, node-EnumName, node-Text, node-Array, node-Read, node-Unary, node-Cast, node-Binary, node-Conditional, node-Assign, node-Update, node-Count, node-Comma, node-Call}
use Rattle.c_kinds.specs.Constants.{is_constant, is_constant_node}

constant_at : (e : Expression) (n : Node) → (out-Expression e).node ≡ n →
    is_constant (expression_tree e) ≡ is_constant_node (out-Expression e).kind (node_tree n)
constant_at e n h = ap is_constant (expression-parts e) ∙ ap (λ n. is_constant_node (out-Expression e).kind (node_tree n)) h

pub constant-Number : (e : Expression) (v : ℤ) → (out-Expression e).node ≡ Number v → is_constant (expression_tree e) ≡ true
constant-Number e v h = constant_at e (Number v) h ∙ ap (is_constant_node (out-Expression e).kind) (node-Number v)

pub constant-Character : (e : Expression) (b : ℕ) → (out-Expression e).node ≡ Character b → is_constant (expression_tree e) ≡ true
constant-Character e b h = constant_at e (Character b) h ∙ ap (is_constant_node (out-Expression e).kind) (node-Character b)

pub constant-EnumName : (e : Expression) (m : List ℕ) (v : ℤ) → (out-Expression e).node ≡ EnumName m v → is_constant (expression_tree e) ≡ true
constant-EnumName e m v h = constant_at e (EnumName m v) h ∙ ap (is_constant_node (out-Expression e).kind) (node-EnumName m v)

pub constant-Unary : (e : Expression) (op : UnaryOp) (a : Expression) → (out-Expression e).node ≡ Unary op a →
    is_constant (expression_tree e) ≡ is_constant (expression_tree a)
constant-Unary e op a h = constant_at e (Unary op a) h ∙ ap (is_constant_node (out-Expression e).kind) (node-Unary op a)

pub constant-Cast : (e a : Expression) → (out-Expression e).node ≡ Cast a →
    is_constant (expression_tree e) ≡ is_some (out-Expression e).kind && is_constant (expression_tree a)
constant-Cast e a h = constant_at e (Cast a) h ∙ ap (is_constant_node (out-Expression e).kind) (node-Cast a)

pub constant-Binary : (e : Expression) (op : BinaryOp) (a b : Expression) → (out-Expression e).node ≡ Binary op a b
    → is_constant (expression_tree e) ≡ is_constant (expression_tree a) && is_constant (expression_tree b)
constant-Binary e op a b h = constant_at e (Binary op a b) h ∙ ap (is_constant_node (out-Expression e).kind) (node-Binary op a b)

pub constant-Conditional : (e a b c : Expression) → (out-Expression e).node ≡ Conditional a b c
    → is_constant (expression_tree e) ≡ is_constant (expression_tree a) && is_constant (expression_tree b) && is_constant (expression_tree c)
constant-Conditional e a b c h = constant_at e (Conditional a b c) h ∙ ap (is_constant_node (out-Expression e).kind) (node-Conditional a b c)

pub ruleset forms = (constant-Number, constant-Character, constant-EnumName, constant-Unary, constant-Cast, constant-Binary, constant-Conditional)

-- every other form
pub not_constant : (e : Expression) → ((v : ℤ) → (out-Expression e).node ≡ Number v → ⊥) → ((b : ℕ) → (out-Expression e).node ≡ Character b → ⊥)
    → ((m : List ℕ) (v : ℤ) → (out-Expression e).node ≡ EnumName m v → ⊥) → ((op : UnaryOp) (a : Expression) → (out-Expression e).node ≡ Unary op a → ⊥)
    → ((a : Expression) → (out-Expression e).node ≡ Cast a → ⊥) → ((op : BinaryOp) (a b : Expression) → (out-Expression e).node ≡ Binary op a b → ⊥)
    → ((a b c : Expression) → (out-Expression e).node ≡ Conditional a b c → ⊥) → is_constant (expression_tree e) ≡ false
not_constant e h1 h2 h3 h4 h5 h6 h7 = put (out-Node (out-Expression e).node) (sym (roll-out-Node (out-Expression e).node)) where
  put : (y : Node-F Node Place Expression) → (out-Expression e).node ≡ roll-Node y → is_constant (expression_tree e) ≡ false
  put (Open.Number v) i = absurd (h1 v (i ∙ rolls-Number v))
  put (Open.Character b) i = absurd (h2 b (i ∙ rolls-Character b))
  put (Open.EnumName m v) i = absurd (h3 m v (i ∙ rolls-EnumName m v))
  put (Open.Text bs) i = constant_at e (roll-Node (Open.Text bs)) i ∙ ap (is_constant_node (out-Expression e).kind)
      (ap node_tree (rolls-Text bs) ∙ node-Text bs)
  put (Open.Array h) i = constant_at e (roll-Node (Open.Array h)) i ∙ ap (is_constant_node (out-Expression e).kind)
      (ap node_tree (rolls-Array h) ∙ node-Array h)
  put (Open.Read p) i = constant_at e (roll-Node (Open.Read p)) i ∙ ap (is_constant_node (out-Expression e).kind) (ap node_tree (rolls-Read p) ∙ node-Read p)
  put (Open.Unary op a) i = absurd (h4 op a (i ∙ rolls-Unary op a))
  put (Open.Cast a) i = absurd (h5 a (i ∙ rolls-Cast a))
  put (Open.Binary op a b) i = absurd (h6 op a b (i ∙ rolls-Binary op a b))
  put (Open.Conditional a b c) i = absurd (h7 a b c (i ∙ rolls-Conditional a b c))
  put (Open.Assign p a) i = constant_at e (roll-Node (Open.Assign p a)) i ∙
      ap (is_constant_node (out-Expression e).kind) (ap node_tree (rolls-Assign p a) ∙ node-Assign p a)
  put (Open.Update op p a) i = constant_at e (roll-Node (Open.Update op p a)) i ∙
      ap (is_constant_node (out-Expression e).kind) (ap node_tree (rolls-Update op p a) ∙ node-Update op p a)
  put (Open.Count p up after) i = constant_at e (roll-Node (Open.Count p up after)) i ∙
      ap (is_constant_node (out-Expression e).kind) (ap node_tree (rolls-Count p up after) ∙ node-Count p up after)
  put (Open.Comma a b) i = constant_at e (roll-Node (Open.Comma a b)) i ∙
      ap (is_constant_node (out-Expression e).kind) (ap node_tree (rolls-Comma a b) ∙ node-Comma a b)
  put (Open.Call f xs) i = constant_at e (roll-Node (Open.Call f xs)) i ∙
      ap (is_constant_node (out-Expression e).kind) (ap node_tree (rolls-Call f xs) ∙ node-Call f xs)

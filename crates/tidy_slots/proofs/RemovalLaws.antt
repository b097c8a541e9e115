-- Each form of an expression with other numbers.
use mathlib.Core.Path.{ap₂}
use Rattle.std.proofs.Common.{ℕ, suc, ◌<◌, arith, length, get_or, ℤ, Bool, List, [], ◌∷◌, map, Option, ◌≡◌, refl, sym, ap, ◌∙◌}
use Rattle.c_types.specs.declared.kinds.ArithOp.{ArithOp}
use Rattle.c_types.specs.declared.kinds.IntKind.{IntKind}
use Rattle.c_tree.specs.declared.tree.UnaryOp.{UnaryOp}
use Rattle.c_tree.specs.declared.tree.BinaryOp.{BinaryOp}
use Rattle.c_tree.specs.declared.tree.Home.{Home}
use Rattle.c_tree.specs.declared.tree.Expression.{Expression, out-Expression, roll-Expression, out-roll-Expression}
use Rattle.c_tree.specs.declared.tree.Place.{Place, Var, Cell}
use Rattle.c_tree.specs.declared.tree.Node.{Node, Number, Character, EnumName, Text, Array, Read, Unary, Cast, Binary, Conditional, Assign, Update, Count, Comma, Call}
use Rattle.c_tree.specs.ExpressionTrees as Plain
use Rattle.c_tree.specs.ExpressionTrees.{Arguments, Typed, expression_tree, place_tree, node_tree, arguments}
use Rattle.c_tree.proofs.ExpressionLaws.{expression-parts, place-Var, place-Cell, node-Number, node-Character, node-EnumName, node-Text, node-Array, node-Read, node-Unary, node-Cast, node-Binary, node-Conditional, node-Assign, node-Update, node-Count, node-Comma, node-Call}
use Rattle.tidy_laws.specs.Renamed.{renamed_home, renamed, renamed_place, renamed_node, renamed_arguments}

module _ (g : ℕ → ℕ) where
  abbrev pub Same : Expression → Expression → Type 0
  Same a b = expression_tree b ≡ renamed g (expression_tree a)

  abbrev pub SamePlace : Place → Place → Type 0
  SamePlace p q = place_tree q ≡ renamed_place g (place_tree p)

  abbrev pub SameNode : Node → Node → Type 0
  SameNode n m = node_tree m ≡ renamed_node g (node_tree n)

  pub whole : (e : Expression) (k : Option IntKind) (m : Node) → (out-Expression e).kind ≡ k → SameNode (out-Expression e).node m →
      Same e (roll-Expression (record { kind = k; node = m }))
  whole e k m h i =
      expression-parts (roll-Expression (record { kind = k; node = m }))
      ∙ ap (λ o. Typed o.kind (node_tree o.node)) (out-roll-Expression (record { kind = k; node = m }))
      ∙ ap (Typed k) i
      ∙ ap (λ k. Typed k (renamed_node g (node_tree (out-Expression e).node))) (sym h)
      ∙ sym (ap (renamed g) (expression-parts e))

  pub lent : (a r b : Expression) → r ≡ a → expression_tree b ≡ renamed g (expression_tree r) → Same a b
  lent a r b e h = h ∙ ap (λ z. renamed g (expression_tree z)) e

  -- by its form
  by_form : (n m : Node) (t : Plain.NodeTree) → n ≡ m → node_tree m ≡ t → renamed_node g (node_tree n) ≡ renamed_node g t
  by_form n m t e h = ap (λ n. renamed_node g (node_tree n)) e ∙ ap (renamed_node g) h

  pub in-Var : (p : Place) (h k : Home) → p ≡ Var h → k ≡ renamed_home g h → SamePlace p (Var k)
  in-Var p h k e i = place-Var k ∙ ap Plain.Var i ∙ sym (ap (λ p. renamed_place g (place_tree p)) e ∙ ap (renamed_place g) (place-Var h))

  pub in-Cell : (p : Place) (h k : Home) (a b : Expression) → p ≡ Cell h a → k ≡ renamed_home g h → Same a b → SamePlace p (Cell k b)
  in-Cell p h k a b e i j = place-Cell k b ∙ ap₂ Plain.Cell i j ∙ sym (ap (λ p. renamed_place g (place_tree p)) e ∙ ap (renamed_place g) (place-Cell h a))

  pub in-Number : (n : Node) (z y : ℤ) → n ≡ Number z → y ≡ z → SameNode n (Number y)
  in-Number n z y e h = node-Number y ∙ ap Plain.Number h ∙ sym (by_form n (Number z) _ e (node-Number z))

  pub in-Character : (n : Node) (b : ℕ) → n ≡ Character b → SameNode n (Character b)
  in-Character n b e = node-Character b ∙ sym (by_form n (Character b) _ e (node-Character b))

  pub in-EnumName : (n : Node) (m k : List ℕ) (z y : ℤ) → n ≡ EnumName m z → k ≡ m → y ≡ z → SameNode n (EnumName k y)
  in-EnumName n m k z y e h i = node-EnumName k y ∙ ap₂ Plain.EnumName h i ∙ sym (by_form n (EnumName m z) _ e (node-EnumName m z))

  pub in-Text : (n : Node) (bs cs : List ℕ) → n ≡ Text bs → cs ≡ bs → SameNode n (Text cs)
  in-Text n bs cs e h = node-Text cs ∙ ap Plain.Text h ∙ sym (by_form n (Text bs) _ e (node-Text bs))

  pub in-Array : (n : Node) (h k : Home) → n ≡ Array h → k ≡ renamed_home g h → SameNode n (Array k)
  in-Array n h k e i = node-Array k ∙ ap Plain.Array i ∙ sym (by_form n (Array h) _ e (node-Array h))

  pub in-Read : (n : Node) (p q : Place) → n ≡ Read p → SamePlace p q → SameNode n (Read q)
  in-Read n p q e i = node-Read q ∙ ap Plain.Read i ∙ sym (by_form n (Read p) _ e (node-Read p))

  pub in-Unary : (n : Node) (op : UnaryOp) (a b : Expression) → n ≡ Unary op a → Same a b → SameNode n (Unary op b)
  in-Unary n op a b e i = node-Unary op b ∙ ap (Plain.Unary op) i ∙ sym (by_form n (Unary op a) _ e (node-Unary op a))

  pub in-Cast : (n : Node) (a b : Expression) → n ≡ Cast a → Same a b → SameNode n (Cast b)
  in-Cast n a b e i = node-Cast b ∙ ap Plain.Cast i ∙ sym (by_form n (Cast a) _ e (node-Cast a))

  pub in-Binary : (n : Node) (op : BinaryOp) (a b c d : Expression) → n ≡ Binary op a b → Same a c → Same b d → SameNode n (Binary op c d)
  in-Binary n op a b c d e i j = node-Binary op c d ∙ ap₂ (Plain.Binary op) i j ∙ sym (by_form n (Binary op a b) _ e (node-Binary op a b))

  pub in-Conditional : (n : Node) (a b c x y z : Expression) → n ≡ Conditional a b c → Same a x → Same b y → Same c z → SameNode n (Conditional x y z)
  in-Conditional n a b c x y z e i j k =
      node-Conditional x y z ∙ ap (λ t. Plain.Conditional t (expression_tree y) (expression_tree z)) i ∙
      ap₂ (Plain.Conditional (renamed g (expression_tree a))) j k
      ∙ sym (by_form n (Conditional a b c) _ e (node-Conditional a b c))

  pub in-Assign : (n : Node) (p q : Place) (a b : Expression) → n ≡ Assign p a → SamePlace p q → Same a b → SameNode n (Assign q b)
  in-Assign n p q a b e i j = node-Assign q b ∙ ap₂ Plain.Assign i j ∙ sym (by_form n (Assign p a) _ e (node-Assign p a))

  pub in-Update : (n : Node) (op : ArithOp) (p q : Place) (a b : Expression) → n ≡ Update op p a → SamePlace p q → Same a b → SameNode n (Update op q b)
  in-Update n op p q a b e i j = node-Update op q b ∙ ap₂ (Plain.Update op) i j ∙ sym (by_form n (Update op p a) _ e (node-Update op p a))

  pub in-Count : (n : Node) (p q : Place) (up after : Bool) → n ≡ Count p up after → SamePlace p q → SameNode n (Count q up after)
  in-Count n p q up after e i = node-Count q up after ∙ ap (λ t. Plain.Count t up after) i ∙ sym (by_form n (Count p up after) _ e (node-Count p up after))

  pub in-Comma : (n : Node) (a b c d : Expression) → n ≡ Comma a b → Same a c → Same b d → SameNode n (Comma c d)
  in-Comma n a b c d e i j = node-Comma c d ∙ ap₂ Plain.Comma i j ∙ sym (by_form n (Comma a b) _ e (node-Comma a b))

  renamed_all : (ts : List Plain.ExpressionTree) → arguments (map (renamed g) ts) ≡ renamed_arguments g (arguments ts)
  renamed_all [] = refl
  renamed_all (t ∷ ts) = ap (Plain.Argument (renamed g t)) (renamed_all ts)

  pub in-Call : (n : Node) (m k : List ℕ) (xs ys : List Expression) → n ≡ Call m xs → k ≡ m →
      map expression_tree ys ≡ map (renamed g) (map expression_tree xs) → SameNode n (Call k ys)
  in-Call n m k xs ys e h i =
      node-Call k ys ∙ ap₂ (λ m ts. Plain.Call m (arguments ts)) h i ∙ ap (Plain.Call m) (renamed_all (map expression_tree xs))
      ∙ sym (by_form n (Call m xs) _ e (node-Call m xs))

  -- expression by expression
  pub each_same : (xs ys : List Expression) → length ys ≡ length xs →
      ((k : ℕ) (d : Expression) → k < length ys → Same (get_or xs k d) (get_or ys k d)) → map expression_tree ys ≡ map (renamed g) (map expression_tree xs)
  each_same [] [] e h = refl
  each_same [] (y ∷ ys) e h = absurd (omega (arith, e))
  each_same (x ∷ xs) [] e h = absurd (omega (arith, e))
  each_same (x ∷ xs) (y ∷ ys) e h = ap₂ (λ z zs. z ∷ zs) (h 0 x (omega arith)) (each_same xs ys (omega (arith, e)) (λ k d l. h (suc k) d (omega (arith, l))))

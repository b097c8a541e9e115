-- Whether each form of an expression names a slot.
use Rattle.std.proofs.Common.{ℕ, ℤ, ◌+◌, ◌<◌, ◌≤◌, Bool, true, false, not, ◌&&◌, ◌||◌, List, [], ◌∷◌, map, drop, length, get_or, ◌≡◌, refl, sym, ap, ◌∙◌}
use Rattle.std.proofs.lemmas.List.{at_drop_more, at_drop_all}
use Rattle.c_types.specs.declared.kinds.ArithOp.{ArithOp}
use Rattle.c_tree.specs.declared.tree.UnaryOp.{UnaryOp}
use Rattle.c_tree.specs.declared.tree.BinaryOp.{BinaryOp}
use Rattle.c_tree.specs.declared.tree.Home.{Home}
use Rattle.c_tree.specs.declared.tree.Expression.{Expression}
use Rattle.c_tree.specs.declared.tree.Place.{Place, Var, Cell}
use Rattle.c_tree.specs.declared.tree.Node.{Node, Number, Character, EnumName, Text, Array, Read, Unary, Cast, Binary, Conditional, Assign, Update, Count, Comma, Call}
use Rattle.c_tree.specs.ExpressionTrees.{expression_tree, place_tree, node_tree, arguments}
use Rattle.c_tree.proofs.ExpressionLaws.{place-Var, place-Cell, node-Number, node-Character, node-EnumName, node-Text, node-Array, node-Read, node-Unary, node-Cast, node-Binary, node-Conditional, node-Assign, node-Update, node-Count, node-Comma, node-Call}
use Rattle.c_tree.specs.Trees.{expression_trees}
use Rattle.tidy_laws.specs.Mentions.{home_lacks, lacks, place_lacks, node_lacks, arguments_lack, all_lack}

pub either_named : (a b x y : Bool) → a ≡ not x → b ≡ not y → (a || b) ≡ not (x && y)
either_named a b true y e h = ap (λ z. z || b) e ∙ h
either_named a b false y e h = ap (λ z. z || b) e

module _ (g : ℕ) where
  pub in-Var : (p : Place) (h : Home) → p ≡ Var h → place_lacks g (place_tree p) ≡ home_lacks g h
  in-Var p h e = ap (λ p. place_lacks g (place_tree p)) e ∙ ap (place_lacks g) (place-Var h)

  pub in-Cell : (p : Place) (h : Home) (a : Expression) → p ≡ Cell h a → place_lacks g (place_tree p) ≡ (home_lacks g h && lacks g (expression_tree a))
  in-Cell p h a e = ap (λ p. place_lacks g (place_tree p)) e ∙ ap (place_lacks g) (place-Cell h a)

  pub in-Number : (n : Node) (z : ℤ) → n ≡ Number z → node_lacks g (node_tree n) ≡ true
  in-Number n z e = ap (λ n. node_lacks g (node_tree n)) e ∙ ap (node_lacks g) (node-Number z)

  pub in-Character : (n : Node) (b : ℕ) → n ≡ Character b → node_lacks g (node_tree n) ≡ true
  in-Character n b e = ap (λ n. node_lacks g (node_tree n)) e ∙ ap (node_lacks g) (node-Character b)

  pub in-EnumName : (n : Node) (m : List ℕ) (z : ℤ) → n ≡ EnumName m z → node_lacks g (node_tree n) ≡ true
  in-EnumName n m z e = ap (λ n. node_lacks g (node_tree n)) e ∙ ap (node_lacks g) (node-EnumName m z)

  pub in-Text : (n : Node) (bs : List ℕ) → n ≡ Text bs → node_lacks g (node_tree n) ≡ true
  in-Text n bs e = ap (λ n. node_lacks g (node_tree n)) e ∙ ap (node_lacks g) (node-Text bs)

  pub in-Array : (n : Node) (h : Home) → n ≡ Array h → node_lacks g (node_tree n) ≡ home_lacks g h
  in-Array n h e = ap (λ n. node_lacks g (node_tree n)) e ∙ ap (node_lacks g) (node-Array h)

  pub in-Read : (n : Node) (p : Place) → n ≡ Read p → node_lacks g (node_tree n) ≡ place_lacks g (place_tree p)
  in-Read n p e = ap (λ n. node_lacks g (node_tree n)) e ∙ ap (node_lacks g) (node-Read p)

  pub in-Unary : (n : Node) (op : UnaryOp) (a : Expression) → n ≡ Unary op a → node_lacks g (node_tree n) ≡ lacks g (expression_tree a)
  in-Unary n op a e = ap (λ n. node_lacks g (node_tree n)) e ∙ ap (node_lacks g) (node-Unary op a)

  pub in-Cast : (n : Node) (a : Expression) → n ≡ Cast a → node_lacks g (node_tree n) ≡ lacks g (expression_tree a)
  in-Cast n a e = ap (λ n. node_lacks g (node_tree n)) e ∙ ap (node_lacks g) (node-Cast a)

  pub in-Binary : (n : Node) (op : BinaryOp) (a b : Expression) → n ≡ Binary op a b →
      node_lacks g (node_tree n) ≡ (lacks g (expression_tree a) && lacks g (expression_tree b))
  in-Binary n op a b e = ap (λ n. node_lacks g (node_tree n)) e ∙ ap (node_lacks g) (node-Binary op a b)

  pub in-Conditional : (n : Node) (a b c : Expression) → n ≡ Conditional a b c →
      node_lacks g (node_tree n) ≡ (lacks g (expression_tree a) && (lacks g (expression_tree b) && lacks g (expression_tree c)))
  in-Conditional n a b c e = ap (λ n. node_lacks g (node_tree n)) e ∙ ap (node_lacks g) (node-Conditional a b c)

  pub in-Assign : (n : Node) (p : Place) (a : Expression) → n ≡ Assign p a →
      node_lacks g (node_tree n) ≡ (place_lacks g (place_tree p) && lacks g (expression_tree a))
  in-Assign n p a e = ap (λ n. node_lacks g (node_tree n)) e ∙ ap (node_lacks g) (node-Assign p a)

  pub in-Update : (n : Node) (op : ArithOp) (p : Place) (a : Expression) → n ≡ Update op p a →
      node_lacks g (node_tree n) ≡ (place_lacks g (place_tree p) && lacks g (expression_tree a))
  in-Update n op p a e = ap (λ n. node_lacks g (node_tree n)) e ∙ ap (node_lacks g) (node-Update op p a)

  pub in-Count : (n : Node) (p : Place) (up after : Bool) → n ≡ Count p up after → node_lacks g (node_tree n) ≡ place_lacks g (place_tree p)
  in-Count n p up after e = ap (λ n. node_lacks g (node_tree n)) e ∙ ap (node_lacks g) (node-Count p up after)

  pub in-Comma : (n : Node) (a b : Expression) → n ≡ Comma a b → node_lacks g (node_tree n) ≡ (lacks g (expression_tree a) && lacks g (expression_tree b))
  in-Comma n a b e = ap (λ n. node_lacks g (node_tree n)) e ∙ ap (node_lacks g) (node-Comma a b)

  pub in-Call : (n : Node) (m : List ℕ) (xs : List Expression) → n ≡ Call m xs →
      node_lacks g (node_tree n) ≡ arguments_lack g (arguments (map expression_tree xs))
  in-Call n m xs e = ap (λ n. node_lacks g (node_tree n)) e ∙ ap (node_lacks g) (node-Call m xs)

  -- ---- lists of expressions

  abbrev pub any_named : List Expression → Bool
  any_named xs = not (arguments_lack g (arguments (map expression_tree xs)))

  abbrev pub some_named : List Expression → Bool
  some_named xs = not (all_lack g (expression_trees xs))

-- a search of expressions for one that has a property
module _ (Q : Expression → Bool) (P : List Expression → Bool) (step : (x : Expression) (xs : List Expression) → P (x ∷ xs) ≡ (Q x || P xs)) where
  at_place : (xs : List Expression) (i : ℕ) (x : Expression) → i < length xs → x ≡ get_or xs i x → P (drop i xs) ≡ (Q x || P (drop (i + 1) xs))
  at_place xs i x h e = at_drop_more P xs i x h ∙ step (get_or xs i x) (drop (i + 1) xs) ∙ ap (λ y. Q y || P (drop (i + 1) xs)) (sym e)

  pub found_named : (xs : List Expression) (i : ℕ) (x : Expression) → i < length xs → x ≡ get_or xs i x → P xs ≡ P (drop i xs) → (b : Bool) →
      b ≡ Q x → b ≡ true → true ≡ P xs
  found_named xs i x h e inv b q t = sym (inv ∙ at_place xs i x h e ∙ ap (λ y. y || P (drop (i + 1) xs)) (sym q ∙ t))

  pub passed_named : (xs : List Expression) (i : ℕ) (x : Expression) → i < length xs → x ≡ get_or xs i x → P xs ≡ P (drop i xs) → (b : Bool) →
      b ≡ Q x → b ≡ false → P xs ≡ P (drop (i + 1) xs)
  passed_named xs i x h e inv b q t = inv ∙ at_place xs i x h e ∙ ap (λ y. y || P (drop (i + 1) xs)) (sym q ∙ t)

  pub none_named : P [] ≡ false → (xs : List Expression) (i : ℕ) → length xs ≤ i → P xs ≡ P (drop i xs) → false ≡ P xs
  none_named n xs i h inv = sym (inv ∙ at_drop_all P xs i h ∙ n)

-- one of two lacks it unless one of them names it
pub either_lacks : (a b : Bool) → not (a && b) ≡ (not a || not b)
either_lacks true b = refl
either_lacks false b = refl

-- An expression by its plain tree: the expression itself, and its printed text.
use Rattle.std.proofs.Common.{◌≡◌, List, [], ◌∷◌, map, Option, refl, ap, sym, subst, ◌∙◌}
use Rattle.c_types.specs.declared.kinds.IntKind.{IntKind}
use Rattle.c_tree.specs.declared.tree.Slot.{Slot}
use Rattle.c_tree.specs.declared.tree.Expression.{Expression, Expression-F, roll-Expression, ind-Expression, fold-roll-Expression}
use Rattle.c_tree.specs.declared.tree.Place.{Place, roll-Place, map-Place, fold-roll-Place}
use Rattle.c_tree.specs.declared.tree.Place as place
use Rattle.c_tree.specs.declared.tree.Place.TheVariants.{rolls-Var, rolls-Cell}
use Rattle.c_tree.specs.declared.tree.Node.{Node, Node-F, roll-Node, map-Node, fold-roll-Node}
use Rattle.c_tree.specs.declared.tree.Node as node
use Rattle.c_tree.specs.declared.tree.Node.TheVariants.{rolls-Number, rolls-Character, rolls-EnumName, rolls-Text, rolls-Array, rolls-Read, rolls-Unary, rolls-Cast, rolls-Binary, rolls-Conditional, rolls-Assign, rolls-Update, rolls-Count, rolls-Comma, rolls-Call}
use Rattle.c_tree.specs.declared.tree.Node.TheOpen as N
use Rattle.c_tree.specs.ExpressionTrees.{ExpressionTree, PlaceTree, NodeTree, Typed, Arguments, NoArgument, Argument, arguments, node_layer, place_layer, expression_layer, expression_tree, node_tree, place_tree}
use Rattle.c_tree.specs.ExpressionTrees as t
use Rattle.c_tree.proofs.ExpressionLaws.{place-Var, place-Cell, node-Number, node-Character, node-EnumName, node-Text, node-Array, node-Read, node-Unary, node-Cast, node-Binary, node-Conditional, node-Assign, node-Update, node-Count, node-Comma, node-Call}
use Rattle.c_tree.specs.TextPieces.{Text}
use Rattle.c_tree.specs.TextExpressions.{Leveled, Kinded, node_step, place_step, expression_step, expression_text, node_text, place_text}

-- ---- the expression that a plain tree is of

abbrev pub expression_of : Option IntKind → Node → Expression
expression_of kind n = roll-Expression (record { kind = kind; node = n })

abbrev mutual
  pub expression_in : ExpressionTree → Expression
  expression_in (Typed kind n) = expression_of kind (node_in n)

  pub node_in : NodeTree → Node
  node_in (t.Number n) = node.Number n
  node_in (t.Character b) = node.Character b
  node_in (t.EnumName name n) = node.EnumName name n
  node_in (t.Text bytes) = node.Text bytes
  node_in (t.Array home) = node.Array home
  node_in (t.Read p) = node.Read (place_in p)
  node_in (t.Unary op a) = node.Unary op (expression_in a)
  node_in (t.Cast a) = node.Cast (expression_in a)
  node_in (t.Binary op a b) = node.Binary op (expression_in a) (expression_in b)
  node_in (t.Conditional a b c) = node.Conditional (expression_in a) (expression_in b) (expression_in c)
  node_in (t.Assign p a) = node.Assign (place_in p) (expression_in a)
  node_in (t.Update op p a) = node.Update op (place_in p) (expression_in a)
  node_in (t.Count p up after) = node.Count (place_in p) up after
  node_in (t.Comma a b) = node.Comma (expression_in a) (expression_in b)
  node_in (t.Call name xs) = node.Call name (arguments_in xs)

  pub place_in : PlaceTree → Place
  place_in (t.Var home) = place.Var home
  place_in (t.Cell home a) = place.Cell home (expression_in a)

  pub arguments_in : Arguments → List Expression
  arguments_in NoArgument = []
  arguments_in (Argument x xs) = expression_in x ∷ arguments_in xs

-- ---- the printed text of a plain tree

abbrev mutual
  pub tree_text : List Slot → ExpressionTree → Leveled
  tree_text slots (Typed kind n) = node_tree_text slots n kind

  pub node_tree_text : List Slot → NodeTree → Kinded
  node_tree_text slots (t.Number n) = node_step slots (N.Number n)
  node_tree_text slots (t.Character b) = node_step slots (N.Character b)
  node_tree_text slots (t.EnumName name n) = node_step slots (N.EnumName name n)
  node_tree_text slots (t.Text bytes) = node_step slots (N.Text bytes)
  node_tree_text slots (t.Array home) = node_step slots (N.Array home)
  node_tree_text slots (t.Read p) = node_step slots (N.Read (place_tree_text slots p))
  node_tree_text slots (t.Unary op a) = node_step slots (N.Unary op (tree_text slots a))
  node_tree_text slots (t.Cast a) = node_step slots (N.Cast (tree_text slots a))
  node_tree_text slots (t.Binary op a b) = node_step slots (N.Binary op (tree_text slots a) (tree_text slots b))
  node_tree_text slots (t.Conditional a b c) = node_step slots (N.Conditional (tree_text slots a) (tree_text slots b) (tree_text slots c))
  node_tree_text slots (t.Assign p a) = node_step slots (N.Assign (place_tree_text slots p) (tree_text slots a))
  node_tree_text slots (t.Update op p a) = node_step slots (N.Update op (place_tree_text slots p) (tree_text slots a))
  node_tree_text slots (t.Count p up after) = node_step slots (N.Count (place_tree_text slots p) up after)
  node_tree_text slots (t.Comma a b) = node_step slots (N.Comma (tree_text slots a) (tree_text slots b))
  node_tree_text slots (t.Call name xs) = node_step slots (N.Call name (argument_texts slots xs))

  pub place_tree_text : List Slot → PlaceTree → Text
  place_tree_text slots (t.Var home) = place_step slots (N.Var home)
  place_tree_text slots (t.Cell home a) = place_step slots (N.Cell home (tree_text slots a))

  pub argument_texts : List Slot → Arguments → List Leveled
  argument_texts slots NoArgument = []
  argument_texts slots (Argument x xs) = tree_text slots x ∷ argument_texts slots xs

-- ---- both are those of the expression

module _ (slots : List Slot) where
  -- of an expression, by its text and its tree
  abbrev Mirrors : Expression → Leveled → ExpressionTree → Type 0
  Mirrors e s x = (expression_in x ≡ e) × (s ≡ tree_text slots x)

  abbrev MirrorsNode : Node → Kinded → NodeTree → Type 0
  MirrorsNode n s x = (node_in x ≡ n) × (s ≡ node_tree_text slots x)

  abbrev MirrorsPlace : Place → Text → PlaceTree → Type 0
  MirrorsPlace p s x = (place_in x ≡ p) × (s ≡ place_tree_text slots x)

  abbrev IN : Type 0
  IN = (n : Node) × MirrorsNode n (node_text slots n) (node_tree n)

  abbrev IP : Type 0
  IP = (p : Place) × MirrorsPlace p (place_text slots p) (place_tree p)

  abbrev IE : Type 0
  IE = (e : Expression) × Mirrors e (expression_text slots e) (expression_tree e)

  abbrev node_at : IN → Node
  node_at e = e.0

  abbrev place_at : IP → Place
  place_at e = e.0

  abbrev expression_at : IE → Expression
  expression_at e = e.0

  arguments_mirror : (xs : List IE) → let es = map expression_at xs in
      (arguments_in (arguments (map expression_tree es)) ≡ es) × (map (expression_text slots) es ≡ argument_texts slots (arguments (map expression_tree es)))
  arguments_mirror [] = (refl, refl)
  arguments_mirror (x ∷ xs) = let r = arguments_mirror xs in let o = x.1 in ((λ i. o.0 i ∷ r.0 i), (λ i. o.1 i ∷ r.1 i))

  abbrev open_node : Node-F IN IP IE → Node-F Node Place Expression
  open_node y = map-Node IN IP IE Node Place Expression node_at place_at expression_at y

  abbrev texts_of : Node-F Node Place Expression → Node-F Kinded Text Leveled
  texts_of z = map-Node Node Place Expression Kinded Text Leveled (node_text slots) (place_text slots) (expression_text slots) z

  abbrev trees_of : Node-F Node Place Expression → Node-F NodeTree PlaceTree ExpressionTree
  trees_of z = map-Node Node Place Expression NodeTree PlaceTree ExpressionTree node_tree place_tree expression_tree z

  node_mirrors : (y : Node-F IN IP IE) → MirrorsNode (roll-Node (open_node y)) (node_step slots (texts_of (open_node y))) (node_layer (trees_of (open_node y)))
  node_mirrors (N.Number n) = (sym (rolls-Number n), refl)
  node_mirrors (N.Character b) = (sym (rolls-Character b), refl)
  node_mirrors (N.EnumName name n) = (sym (rolls-EnumName name n), refl)
  node_mirrors (N.Text bytes) = (sym (rolls-Text bytes), refl)
  node_mirrors (N.Array home) = (sym (rolls-Array home), refl)
  node_mirrors (N.Read p) = let o = p.1 in (ap node.Read o.0 ∙ sym (rolls-Read p.0), λ i. node_step slots (N.Read (o.1 i)))
  node_mirrors (N.Unary op a) = let o = a.1 in (ap (node.Unary op) o.0 ∙ sym (rolls-Unary op a.0), λ i. node_step slots (N.Unary op (o.1 i)))
  node_mirrors (N.Cast a) = let o = a.1 in (ap node.Cast o.0 ∙ sym (rolls-Cast a.0), λ i. node_step slots (N.Cast (o.1 i)))
  node_mirrors (N.Binary op a b) = let o = a.1 in let r = b.1 in
      ((λ i. node.Binary op (o.0 i) (r.0 i)) ∙ sym (rolls-Binary op a.0 b.0), λ i. node_step slots (N.Binary op (o.1 i) (r.1 i)))
  node_mirrors (N.Conditional a b c) =
      let o = a.1 in let r = b.1 in let u = c.1 in
      ((λ i. node.Conditional (o.0 i) (r.0 i) (u.0 i)) ∙ sym (rolls-Conditional a.0 b.0 c.0), λ i. node_step slots (N.Conditional (o.1 i) (r.1 i) (u.1 i)))
  node_mirrors (N.Assign p a) = let o = p.1 in let r = a.1 in
      ((λ i. node.Assign (o.0 i) (r.0 i)) ∙ sym (rolls-Assign p.0 a.0), λ i. node_step slots (N.Assign (o.1 i) (r.1 i)))
  node_mirrors (N.Update op p a) = let o = p.1 in let r = a.1 in
      ((λ i. node.Update op (o.0 i) (r.0 i)) ∙ sym (rolls-Update op p.0 a.0), λ i. node_step slots (N.Update op (o.1 i) (r.1 i)))
  node_mirrors (N.Count p up after) = let o = p.1 in (
    (λ i. node.Count (o.0 i) up after) ∙ sym (rolls-Count p.0 up after),
    λ i. node_step slots
        (N.Count (o.1 i) up after),
  )
  node_mirrors (N.Comma a b) = let o = a.1 in let r = b.1 in
      ((λ i. node.Comma (o.0 i) (r.0 i)) ∙ sym (rolls-Comma a.0 b.0), λ i. node_step slots (N.Comma (o.1 i) (r.1 i)))
  node_mirrors (N.Call name xs) = let o = arguments_mirror xs in
      (ap (node.Call name) o.0 ∙ sym (rolls-Call name (map expression_at xs)), λ i. node_step slots (N.Call name (o.1 i)))

  abbrev open_place : N.Place-F IN IP IE → N.Place-F Node Place Expression
  open_place y = map-Place IN IP IE Node Place Expression node_at place_at expression_at y

  abbrev place_texts : N.Place-F Node Place Expression → N.Place-F Kinded Text Leveled
  place_texts z = map-Place Node Place Expression Kinded Text Leveled (node_text slots) (place_text slots) (expression_text slots) z

  abbrev place_trees : N.Place-F Node Place Expression → N.Place-F NodeTree PlaceTree ExpressionTree
  place_trees z = map-Place Node Place Expression NodeTree PlaceTree ExpressionTree node_tree place_tree expression_tree z

  place_mirrors : (y : N.Place-F IN IP IE) → MirrorsPlace (roll-Place (open_place y)) (place_step slots (place_texts (open_place y)))
      (place_layer (place_trees (open_place y)))
  place_mirrors (N.Var home) = (sym (rolls-Var home), refl)
  place_mirrors (N.Cell home a) = let o = a.1 in (ap (place.Cell home) o.0 ∙ sym (rolls-Cell home a.0), λ i. place_step slots (N.Cell home (o.1 i)))

  node_rolls : (z : Node-F Node Place Expression) → node_tree (roll-Node z) ≡ node_layer (trees_of z)
  unfolding node_tree place_tree expression_tree
  node_rolls z = fold-roll-Node NodeTree PlaceTree ExpressionTree node_layer place_layer expression_layer z

  place_rolls : (z : N.Place-F Node Place Expression) → place_tree (roll-Place z) ≡ place_layer (place_trees z)
  unfolding node_tree place_tree expression_tree
  place_rolls z = fold-roll-Place NodeTree PlaceTree ExpressionTree node_layer place_layer expression_layer z

  expression_rolls : (z : Expression-F Node Place Expression) → expression_tree (roll-Expression z) ≡ Typed z.kind (node_tree z.node)
  unfolding node_tree place_tree expression_tree
  expression_rolls z = fold-roll-Expression NodeTree PlaceTree ExpressionTree node_layer place_layer expression_layer z

  abbrev AtNode : Node → Type 0
  AtNode n = MirrorsNode n (node_text slots n) (node_tree n)

  abbrev AtPlace : Place → Type 0
  AtPlace p = MirrorsPlace p (place_text slots p) (place_tree p)

  abbrev AtExpression : Expression → Type 0
  AtExpression e = Mirrors e (expression_text slots e) (expression_tree e)

  pub mirrors : (e : Expression) → Mirrors e (expression_text slots e) (expression_tree e)
  mirrors = ind-Expression AtNode AtPlace AtExpression
      (λ x y e. subst (λ (z : Node-F Node Place Expression). AtNode (roll-Node z)) e
      (subst (λ (s : Kinded). MirrorsNode (roll-Node (open_node y)) s (node_tree (roll-Node (open_node y))))
      (sym (fold-roll-Node Kinded Text Leveled (node_step slots) (place_step slots) expression_step _))
      (subst (λ (n : NodeTree). MirrorsNode (roll-Node (open_node y)) (node_step slots (texts_of (open_node y))) n) (sym (node_rolls _)) (node_mirrors y))))
      (λ x y e. subst (λ (z : N.Place-F Node Place Expression). AtPlace (roll-Place z)) e
      (subst (λ (s : Text). MirrorsPlace (roll-Place (open_place y)) s (place_tree (roll-Place (open_place y))))
      (sym (fold-roll-Place Kinded Text Leveled (node_step slots) (place_step slots) expression_step _))
      (subst (λ (p : PlaceTree). MirrorsPlace (roll-Place (open_place y)) (place_step slots (place_texts (open_place y))) p) (sym (place_rolls _))
      (place_mirrors y))))
      (λ x y e. let o = y.node.1 in
      subst (λ (z : Expression-F Node Place Expression). AtExpression (roll-Expression z)) e
      (subst (λ (s : Leveled). Mirrors (expression_of y.kind y.node.0) s (expression_tree (expression_of y.kind y.node.0)))
      (sym (fold-roll-Expression Kinded Text Leveled (node_step slots) (place_step slots) expression_step _))
      (subst (λ (x : ExpressionTree). Mirrors (expression_of y.kind y.node.0) (node_text slots y.node.0 y.kind) x) (sym (expression_rolls _))
      (ap (expression_of y.kind) o.0, λ i. o.1 i y.kind))))

-- an expression is that of its plain tree
pub whole : (e : Expression) → expression_in (expression_tree e) ≡ e
whole e = (mirrors [] e).0

-- and has its text
pub text_of_tree : (slots : List Slot) (e : Expression) → expression_text slots e ≡ tree_text slots (expression_tree e)
text_of_tree slots e = (mirrors slots e).1

-- ---- the plain tree of that expression

mutual
  pub again : (x : ExpressionTree) → expression_tree (expression_in x) ≡ x
  again (Typed kind n) = expression_rolls [] (record { kind = kind; node = node_in n }) ∙ ap (Typed kind) (node_again n)

  node_again : (n : NodeTree) → node_tree (node_in n) ≡ n
  node_again (t.Number n) = node-Number n
  node_again (t.Character b) = node-Character b
  node_again (t.EnumName name n) = node-EnumName name n
  node_again (t.Text bytes) = node-Text bytes
  node_again (t.Array home) = node-Array home
  node_again (t.Read p) = node-Read (place_in p) ∙ ap t.Read (place_again p)
  node_again (t.Unary op a) = node-Unary op (expression_in a) ∙ ap (t.Unary op) (again a)
  node_again (t.Cast a) = node-Cast (expression_in a) ∙ ap t.Cast (again a)
  node_again (t.Binary op a b) = node-Binary op (expression_in a) (expression_in b) ∙ (λ i. t.Binary op (again a i) (again b i))
  node_again (t.Conditional a b c) = node-Conditional (expression_in a) (expression_in b) (expression_in c) ∙
      (λ i. t.Conditional (again a i) (again b i) (again c i))
  node_again (t.Assign p a) = node-Assign (place_in p) (expression_in a) ∙ (λ i. t.Assign (place_again p i) (again a i))
  node_again (t.Update op p a) = node-Update op (place_in p) (expression_in a) ∙ (λ i. t.Update op (place_again p i) (again a i))
  node_again (t.Count p up after) = node-Count (place_in p) up after ∙ (λ i. t.Count (place_again p i) up after)
  node_again (t.Comma a b) = node-Comma (expression_in a) (expression_in b) ∙ (λ i. t.Comma (again a i) (again b i))
  node_again (t.Call name xs) = node-Call name (arguments_in xs) ∙ ap (t.Call name) (arguments_again xs)

  place_again : (p : PlaceTree) → place_tree (place_in p) ≡ p
  place_again (t.Var home) = place-Var home
  place_again (t.Cell home a) = place-Cell home (expression_in a) ∙ ap (t.Cell home) (again a)

  arguments_again : (xs : Arguments) → arguments (map expression_tree (arguments_in xs)) ≡ xs
  arguments_again NoArgument = refl
  arguments_again (Argument x xs) = λ i. Argument (again x i) (arguments_again xs i)

-- and its text
pub text_in : (slots : List Slot) (x : ExpressionTree) → expression_text slots (expression_in x) ≡ tree_text slots x
text_in slots x = text_of_tree slots (expression_in x) ∙ ap (tree_text slots) (again x)

pub texts_in : (slots : List Slot) (xs : List ExpressionTree) → map (expression_text slots) (map expression_in xs) ≡ map (tree_text slots) xs
texts_in slots [] = refl
texts_in slots (x ∷ xs) = λ i. text_in slots x i ∷ texts_in slots xs i
